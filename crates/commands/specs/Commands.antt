-- The commands by their names.
-- Assumes nothing.
use Rattle.std.specs.Prelude.{List, [], ◌∷◌, ℕ, Option, None, Some}
use Rattle.std.specs.Str.{bytes_eq}
use Rattle.lists.specs.Pick.{pick}
use Rattle.commands.specs.declared.Command.{Command}
use Rattle.commands.specs.declared.Command.TheVariants.{Judge, Floor, Fit, First, Rotate, Search, Listing, Run, Plain, Table, Help}

-- "judge"
abbrev pub judge_name : List ℕ
judge_name = 106 ∷ 117 ∷ 100 ∷ 103 ∷ 101 ∷ []

-- "floor"
abbrev pub floor_name : List ℕ
floor_name = 102 ∷ 108 ∷ 111 ∷ 111 ∷ 114 ∷ []

-- "fit"
abbrev pub fit_name : List ℕ
fit_name = 102 ∷ 105 ∷ 116 ∷ []

-- "first"
abbrev pub first_name : List ℕ
first_name = 102 ∷ 105 ∷ 114 ∷ 115 ∷ 116 ∷ []

-- "rotate"
abbrev pub rotate_name : List ℕ
rotate_name = 114 ∷ 111 ∷ 116 ∷ 97 ∷ 116 ∷ 101 ∷ []

-- "search"
abbrev pub search_name : List ℕ
search_name = 115 ∷ 101 ∷ 97 ∷ 114 ∷ 99 ∷ 104 ∷ []

-- "list"
abbrev pub list_name : List ℕ
list_name = 108 ∷ 105 ∷ 115 ∷ 116 ∷ []

-- "run"
abbrev pub run_name : List ℕ
run_name = 114 ∷ 117 ∷ 110 ∷ []

-- "plain"
abbrev pub plain_name : List ℕ
plain_name = 112 ∷ 108 ∷ 97 ∷ 105 ∷ 110 ∷ []

-- "table"
abbrev pub table_name : List ℕ
table_name = 116 ∷ 97 ∷ 98 ∷ 108 ∷ 101 ∷ []

-- "help"
abbrev pub help_name : List ℕ
help_name = 104 ∷ 101 ∷ 108 ∷ 112 ∷ []

-- those that write a record
unfoldable pub rewriting_of : List ℕ → Option Command
rewriting_of w =
    pick (bytes_eq w fit_name) (Some Fit)
    (pick (bytes_eq w first_name) (Some First)
    (pick (bytes_eq w rotate_name) (Some Rotate)
    (pick (bytes_eq w search_name) (Some Search) None)))

-- the command that a word names
unfoldable pub command_of : List ℕ → Option Command
command_of w =
    pick (bytes_eq w judge_name) (Some Judge)
    (pick (bytes_eq w floor_name) (Some Floor)
    (pick (bytes_eq w list_name) (Some Listing)
    (pick (bytes_eq w table_name) (Some Table)
    (pick (bytes_eq w run_name) (Some Run)
    (pick (bytes_eq w plain_name) (Some Plain)
    (pick (bytes_eq w help_name) (Some Help) (rewriting_of w)))))))
