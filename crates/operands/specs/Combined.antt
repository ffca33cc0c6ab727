-- A node's operation, operand by operand: the total before the first, with one more, and what becomes of it after the last.
-- Assumes nothing.
use Rattle.std.specs.Prelude.{◌≡◌, refl, List, [], ◌∷◌, ℕ, Option, None, Some, unwrap_or}
use Rattle.lists.specs.Fold.{fold}
use Rattle.form.specs.declared.Operation.{Operation}
use Rattle.form.specs.declared.Operation.TheVariants.{Add, Sub, Mul}
use Rattle.machine.specs.Values.{word, plus, minus, times, difference, applied}

-- a difference begins with its first operand
unfoldable pub opening : Operation → Option ℕ
opening (Add k) = Some (word k)
opening (Sub k) = None
opening (Mul k) = Some (word k)

unfoldable pub combined : Operation → Option ℕ → ℕ → ℕ
combined o None x = x
combined (Add k) (Some t) x = plus t x
combined (Sub k) (Some t) x = minus t x
combined (Mul k) (Some t) x = times t x

unfoldable pub closing : Operation → Option ℕ → ℕ
closing (Add k) t = unwrap_or t 0
closing (Sub k) t = minus (unwrap_or t 0) k
closing (Mul k) t = unwrap_or t 0

-- the operands that are left, from a total so far
unfoldable pub finished : Operation → Option ℕ → List ℕ → ℕ
finished o t [] = closing o t
finished o t (x ∷ xs) = finished o (Some (combined o t x)) xs

finished-add : (k t : ℕ) (xs : List ℕ) → finished (Add k) (Some t) xs ≡ fold plus t xs
unfolding finished combined closing fold
finished-add k t [] = refl
finished-add k t (x ∷ xs) = finished-add k (plus t x) xs

finished-mul : (k t : ℕ) (xs : List ℕ) → finished (Mul k) (Some t) xs ≡ fold times t xs
unfolding finished combined closing fold
finished-mul k t [] = refl
finished-mul k t (x ∷ xs) = finished-mul k (times t x) xs

finished-sub : (k t : ℕ) (xs : List ℕ) → finished (Sub k) (Some t) xs ≡ minus (fold minus t xs) k
unfolding finished combined closing fold
finished-sub k t [] = refl
finished-sub k t (x ∷ xs) = finished-sub k (minus t x) xs

finished-difference : (k : ℕ) (xs : List ℕ) → finished (Sub k) None xs ≡ minus (difference xs) k
unfolding finished combined closing difference
finished-difference k [] = refl
finished-difference k (x ∷ xs) = finished-sub k x xs

-- all operands, from the beginning
pub finished-applied : (o : Operation) (xs : List ℕ) → finished o (opening o) xs ≡ applied o xs
unfolding applied opening
finished-applied (Add k) xs = finished-add k (word k) xs
finished-applied (Sub k) xs = finished-difference k xs
finished-applied (Mul k) xs = finished-mul k (word k) xs
