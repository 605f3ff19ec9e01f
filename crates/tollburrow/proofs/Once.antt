-- Two answers of a function for other languages: what stands behind them is one answer of the entry, and the numbers follow from it.
use Prim.Native.Nat.{ℕ}
use mathlib.Core.Path.{◌≡◌, refl, sym, ap, ◌∙◌}
use mathlib.Core.List.{List}
use mathlib.Core.Logic.{inl, inr}
use native.Mathlib.Omega.{arith}
use Rattle.std.specs.Prelude.{Some, None, Result}
use Rattle.laws.specs.Trials.{answers}
use Rattle.laws.proofs.Trials.{passed}
use Rattle.night.specs.declared.refusals.Refusal.{Refusal}
use Rattle.night.specs.Refusals.{said}
use Rattle.night.specs.Views.{clear_of, sealed_of}
use Rattle.format.specs.Layout.{night_of}
use Rattle.model.specs.declared.Out.{Out}
use Rattle.model.specs.Reasons.{out, standing, Looked}
use Rattle.model.proofs.Reasons.{stands_out}
use Rattle.verdicts.specs.Refusals.{why_trials}
use Rattle.planning.specs.Answers.{why_of}
use Rattle.planning.specs.declared.CheapestPlan.{CheapestPlan}
use Rattle.planning.proofs.Once.{cheapest_once, offered_once}
use Rattle.writing.proofs.Answered.{write_once}
use Rattle.tollburrow.specs.Codes.{code_of, or_else, cheapest_code, offered_code, total_or, steps_or, cost_or}
use Rattle.tollburrow.specs.Once.{CheapestOutOnce, OfferedOutOnce, WriteOutOnce, StandingsApart}

pub cheapest_out_once : CheapestOutOnce
cheapest_out_once s before x y total steps t k code t' k' code' u v =
    let same = cheapest_once s before x y u.said v.said u.says v.says in (
      same.1,
      u.its_total ∙ ap (λ (a : Result CheapestPlan Refusal). total_or a total) same.0 ∙ sym v.its_total,
      u.its_steps ∙ ap (λ (a : Result CheapestPlan Refusal). steps_or a steps) same.0 ∙ sym v.its_steps,
      u.its_code ∙ ap cheapest_code same.0 ∙ sym v.its_code,
    )

pub offered_out_once : OfferedOutOnce
offered_out_once s offer before x y total t code t' code' u v =
    let same = offered_once s offer before x y u.said v.said u.says v.says in (
      same.1,
      u.its_total ∙ ap (λ (a : Result ℕ Refusal). cost_or a total) same.0 ∙ sym v.its_total,
      u.its_code ∙ ap offered_code same.0 ∙ sym v.its_code,
    )

pub write_out_once : WriteOutOnce
write_out_once vs before x y length l code l' code' p q =
    let same = write_once vs before x y p.said q.said p.says q.says in (
      same.1,
      p.its_length ∙ ap (λ (r : Result ℕ Refusal). or_else (said r) length) same.0 ∙ sym q.its_length,
      p.its_code ∙ ap (λ (r : Result ℕ Refusal). code_of (said r)) same.0 ∙ sym q.its_code,
    )

same_numbers : (o u : Out) → o.table ≡ u.table → o.condition ≡ u.condition → o.set ≡ u.set → o ≡ u
same_numbers o u table condition named = rw (table, condition, named) refl

-- a table that is looked at is not 0
some_table : (s : List ℕ) (i p k c set : ℕ) → why_of s i p ≡ answers (out k c set) → k ≡ 0 → ⊥
unfolding why_of
some_table s i p k c set e z =
    let seen = standing (night_of s) i (clear_of (night_of s) p) (sealed_of (night_of s) p) in
    go (stands_out (night_of s) i _ _ k c set (passed (why_trials s i p) seen (out k c set) e).1).0.looked
  where
    go : Looked (night_of s) i k → ⊥
    go (inl q) = omega arith
    go (inr (inl q)) = omega (arith, q.0)
    go (inr (inr q)) = omega arith

pub standings_apart : StandingsApart
standings_apart s t i p j q None None e f table condition named = refl
standings_apart s t i p j q None (Some o) e f table condition named = absurd (some_table t j q o.table o.condition o.set f (sym table))
standings_apart s t i p j q (Some o) None e f table condition named = absurd (some_table s i p o.table o.condition o.set e table)
standings_apart s t i p j q (Some o) (Some u) e f table condition named = ap Some (same_numbers o u table condition named)
