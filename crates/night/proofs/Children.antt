-- What a child is.
use Prim.Native.Nat.{ℕ}
use mathlib.Core.Path.{◌≡◌, refl}
use mathlib.Core.Bool.{Bool, true, false}
use mathlib.Core.Logic.{◌⊎◌, inl, inr}
use native.Mathlib.Omega.{arith}
use lib.Dec.{eqb}
use borrow.Author.Tests.{eqb-true}
use Rattle.std.specs.Prelude.{if◌then◌else◌}
use Rattle.laws.specs.Choose.{any_of}
use Rattle.night.specs.declared.Node.{Node}
use Rattle.night.specs.Kinds.{uses_left, uses_right, is_child}

-- it is the left operand of a node that has one, or the right one
pub is-child : (v : Node) (c : ℕ) → is_child v c ≡ true → ((uses_left v.kind ≡ true) × (v.left ≡ c)) ⊎ ((uses_right v.kind ≡ true) × (v.right ≡ c))
unfolding is_child any_of
is-child v c e = go (uses_left v.kind) (eqb v.left c) (uses_right v.kind) (eqb v.right c) refl refl refl refl e
  where
    go : (a b x y : Bool) → uses_left v.kind ≡ a → eqb v.left c ≡ b → uses_right v.kind ≡ x → eqb v.right c ≡ y
        → (if (if a then b else false) then true else if (if x then y else false) then true else false) ≡ true
        → ((uses_left v.kind ≡ true) × (v.left ≡ c)) ⊎ ((uses_right v.kind ≡ true) × (v.right ≡ c))
    go true true x y p q r t e = inl (p, eqb-true v.left c q)
    go true false true true p q r t e = inr (r, eqb-true v.right c t)
    go true false true false p q r t e = absurd (let z : ◌≡◌ {A = ℕ} 0 1 = cc in omega arith)
    go true false false y p q r t e = absurd (let z : ◌≡◌ {A = ℕ} 0 1 = cc in omega arith)
    go false b true true p q r t e = inr (r, eqb-true v.right c t)
    go false b true false p q r t e = absurd (let z : ◌≡◌ {A = ℕ} 0 1 = cc in omega arith)
    go false b false y p q r t e = absurd (let z : ◌≡◌ {A = ℕ} 0 1 = cc in omega arith)
