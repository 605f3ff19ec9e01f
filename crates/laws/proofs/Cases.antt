-- How `search` goes through a chain of choices by the tests that a path of the code passed, and what a row of tests says where none holds.
use Prim.Native.Nat.{ℕ, ◌<◌, ◌≤◌}
use mathlib.Core.Path.{◌≡◌, refl, sym}
use mathlib.Core.Bool.{Bool, true, false, not}
use mathlib.Core.List.{List, [], ◌∷◌}
use native.Mathlib.Omega.{arith}
use lib.Dec.{ltb, eqb}
use borrow.Author.Tests.{lt-ltb, le-ltb, le-leb, lt-leb, eq-eqb, ne_eqb}
use Rattle.std.specs.Prelude.{if◌then◌else◌}
use Rattle.laws.specs.Choose.{any_of}

pub yes_is : {A : Type 0} (b : Bool) (r x y : A) → b ≡ true → r ≡ x → r ≡ (if b then x else y)
yes_is b r x y e p = rw e p

pub no_is : {A : Type 0} (b : Bool) (r x y : A) → b ≡ false → r ≡ y → r ≡ (if b then x else y)
no_is b r x y e p = rw e p

-- of a test that is turned round
pub ne_bad : (a b : ℕ) → (a ≡ b → ⊥) → not (eqb a b) ≡ true
ne_bad a b h = rw (ne_eqb a b h) refl

pub eq_fine : (a b : ℕ) → a ≡ b → not (eqb a b) ≡ false
eq_fine a b h = rw (eq-eqb a b h) refl

pub lt_fine : (a b : ℕ) → a < b → not (ltb a b) ≡ false
lt_fine a b h = rw (lt-ltb a b h) refl

pub le_bad : (a b : ℕ) → b ≤ a → not (ltb a b) ≡ true
le_bad a b h = rw (le-ltb a b h) refl

pub not_yes : (b : Bool) → b ≡ true → not b ≡ false
not_yes b e = rw e refl

pub not_no : (b : Bool) → b ≡ false → not b ≡ true
not_no b e = rw e refl

-- the last of several tests, of which one is enough
pub last_is : (b r : Bool) → r ≡ b → r ≡ (if b then true else false)
last_is true r e = e
last_is false r e = e

pub ruleset cases = (yes_is, no_is, last_is, lt-ltb, le-ltb, le-leb, lt-leb, eq-eqb, ne_eqb, ne_bad, eq_fine, lt_fine, le_bad, not_yes, not_no)

-- none of the tests holds
abbrev pub NoneOf : List Bool → Type 0
NoneOf [] = Unit {0}
NoneOf (b ∷ bs) = (b ≡ false) × NoneOf bs

pub clash : true ≡ false → ⊥
clash e = let z : ◌≡◌ {A = ℕ} 0 1 = cc in omega arith

-- tests that hold together are the same
pub tests_same : (a b : Bool) → (a ≡ true → b ≡ true) → (b ≡ true → a ≡ true) → a ≡ b
tests_same true b f g = sym (f refl)
tests_same false true f g = g refl
tests_same false false f g = refl

pub none-of : (bs : List Bool) → any_of bs ≡ false → NoneOf bs
unfolding any_of
none-of [] e = tt
none-of (true ∷ bs) e = absurd (clash e)
none-of (false ∷ bs) e = (refl, none-of bs e)
