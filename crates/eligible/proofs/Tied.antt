-- One turn of a loop over tied sets is the definition's next one.
use Prim.Native.Nat.{ℕ, ◌+◌}
use mathlib.Core.Path.{◌≡◌, ◌∙◌, ap, sym}
use mathlib.Core.Bool.{true, false}
use mathlib.Core.List.{List}
use lib.ListN.{length, get_or}
use Rattle.sets.specs.Sets.{member, union}
use Rattle.model.specs.Ties.{gathered, tie, merged}
use Rattle.model.proofs.Merged.{merged_more}
use Rattle.model.proofs.TableLaws.{gathered_more}

-- an attribute of the set brings its tied set along, any other nothing
pub gathered_taken : {all next : ℕ} (t : List ℕ) (s k : ℕ) → all ≡ gathered t s k → true ≡ member s k → next ≡ union all (get_or t k 0) → next ≡ gathered t s (k + 1)
gathered_taken t s k all met next = rw (gathered_more, ← met) (cc)

pub gathered_left : {all next : ℕ} (t : List ℕ) (s k : ℕ) → all ≡ gathered t s k → false ≡ member s k → next ≡ all → next ≡ gathered t s (k + 1)
gathered_left t s k all met next = rw (gathered_more, ← met) (cc)

pub merged_turn : {all next : List ℕ} (t u : List ℕ) (k : ℕ) → length t ≡ 64 → all ≡ merged t u k → next ≡ tie all (get_or u k 0) → next ≡ merged t u (k + 1)
merged_turn t u k e all next = next ∙ ap (λ (s : List ℕ). tie s (get_or u k 0)) all ∙ sym (merged_more t u k e)
