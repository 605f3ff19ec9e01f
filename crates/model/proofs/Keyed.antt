-- Events counted node by node: what is ever sealed, and who holds a key.
use Prim.Native.Nat.{ℕ, zero, suc}
use mathlib.Core.Path.{◌≡◌, refl, sym, ◌∙◌}
use mathlib.Core.List.{List, [], ◌∷◌, ◌++◌}
use native.Mathlib.Omega.{arith}
use lib.Bits.{or_zero_l}
use Rattle.std.specs.Prelude.{if◌then◌else◌}
use Rattle.laws.specs.Upwards.{upwards, each}
use Rattle.sets.specs.Sets.{union, apart, single, unions}
use Rattle.sets.proofs.Members.{bit_union}
use Rattle.run.specs.Keys.{Event, ever_sealed, holders_of}
use Rattle.model.proofs.TableLaws.{same_bits, union_none}

union_assoc : (a b c : ℕ) → union (union a b) c ≡ union a (union b c)
union_assoc a b c = same_bits (union (union a b) c) (union a (union b c)) (λ k. simp bit_union (omega arith))

none_union : (a : ℕ) → union 0 a ≡ a
unfolding union
none_union a = or_zero_l a

-- what is gathered from events one after the other is the union of what each gives
module _ (F : List Event → ℕ) (g : Event → ℕ) (none : F [] ≡ 0) (more : (e : Event) (es : List Event) → F (e ∷ es) ≡ union (g e) (F es)) where
  gathered_append : (xs ys : List Event) → F (xs ++ ys) ≡ union (F xs) (F ys)
  gathered_append [] ys = rw none (sym (none_union (F ys)))
  gathered_append (x ∷ xs) ys = rw (more x (xs ++ ys), more x xs, gathered_append xs ys) (sym (union_assoc (g x) (F xs) (F ys)))

  gathered_each : (f : ℕ → Event) (n : ℕ) → F (each n f) ≡ unions (λ i. g (f i)) n
  unfolding upwards unions
  gathered_each f zero = none
  gathered_each f (suc n) = gathered_append (each n f) (f n ∷ []) ∙ rw (gathered_each f n, more (f n) [], none, union_none (g (f n))) refl

pub ever_each : (f : ℕ → Event) (n : ℕ) → ever_sealed (each n f) ≡ unions (λ i. (f i).sealed) n
unfolding ever_sealed
ever_each f n = gathered_each ever_sealed (λ e. e.sealed) refl (λ e es. refl) f n

pub holders_each : (f : ℕ → Event) (group n : ℕ)
    → holders_of (each n f) group ≡ unions (λ i. if apart group (union (f i).opened (f i).sealed) then 0 else single 16 (f i).subject) n
unfolding holders_of
holders_each f group n =
    gathered_each (λ es. holders_of es group) (λ e. if apart group (union e.opened e.sealed) then 0 else single 16 e.subject) refl (λ e es. refl) f n

-- one list of events after another
pub ever_append : (xs ys : List Event) → ever_sealed (xs ++ ys) ≡ union (ever_sealed xs) (ever_sealed ys)
unfolding ever_sealed
ever_append xs ys = gathered_append ever_sealed (λ e. e.sealed) refl (λ e es. refl) xs ys

-- an event that seals nothing adds nothing to what is sealed
pub ever_idle : (es : List Event) (e : Event) → e.sealed ≡ 0 → ever_sealed (es ++ (e ∷ [])) ≡ ever_sealed es
unfolding ever_sealed
ever_idle es e z = ever_append es (e ∷ []) ∙ rw (z, union_none 0) (union_none (ever_sealed es))

pub holders_append : (xs ys : List Event) (group : ℕ) → holders_of (xs ++ ys) group ≡ union (holders_of xs group) (holders_of ys group)
unfolding holders_of
holders_append xs ys group =
    gathered_append (λ es. holders_of es group) (λ e. if apart group (union e.opened e.sealed) then 0 else single 16 e.subject) refl (λ e es. refl) xs ys
