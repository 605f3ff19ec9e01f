-- The answers of the pass leave no choice.
use Prim.Native.Nat.{ℕ}
use mathlib.Core.Path.{◌≡◌, refl, sym, ap, ◌∙◌}
use mathlib.Core.List.{List}
use Rattle.std.specs.Prelude.{Ok, Err}
use Rattle.laws.specs.Trials.{Says, answers, refuses}
use Rattle.laws.proofs.Trials.{never}
use Rattle.night.specs.declared.Header.{Header}
use Rattle.night.specs.Night.{Night}
use Rattle.night.specs.Refusals.{number_of}
use Rattle.night.proofs.Said.{said_once}
use Rattle.format.specs.Layout.{night_in}
use Rattle.trials.specs.Trials.{check_of}
use Rattle.model.specs.Reasons.{Standing}
use Rattle.eligible.specs.declared.Built.{Built}
use Rattle.eligible.specs.declared.PassOver.{PassOver}
use Rattle.eligible.specs.declared.NodeSet.{NodeSet}
use Rattle.eligible.specs.declared.Stood.{Stood}
use Rattle.eligible.specs.Answers.{BuiltFor, PassOnce, SetOnce, StandingOnce}

-- what a plan is made of
pub built_same : (N : Night) (p q : Built) → BuiltFor N p → BuiltFor N q → p ≡ q
built_same N p q x y =
    let seals : p.seals ≡ q.seals = x.seals_all ∙ sym y.seals_all in
    let tied : p.tied ≡ q.tied = x.root_ties ∙ sym y.root_ties in
    let sealed : p.sealed ≡ q.sealed = x.root_sealed ∙ sym y.root_sealed in
    λ j. record { seals = seals j; tied = tied j; sealed = sealed j }

-- two answers of the check to one file
same_header : (s : List ℕ) (h k : Header) → check_of s ≡ answers h → check_of s ≡ answers k → h ≡ k
same_header s h k e f = let both : ◌≡◌ {A = Says Header} (answers h) (answers k) = sym e ∙ f in cc

-- two refusals are the same whatever would have been answered
again : {A B : Type 0} {n p m q : ℕ} → ◌≡◌ {A = Says A} (refuses n p) (refuses m q) → ◌≡◌ {A = Says B} (refuses n p) (refuses m q)
again {A} {B} {n} {p} {m} {q} e =
    let number : n ≡ m = cc in
    let place : p ≡ q = cc in
    rw (number, place) refl

pub pass_once : PassOnce
pass_once s (Ok p) (Ok q) x y =
    let same : p.header ≡ q.header = same_header s p.header q.header x.0 y.0 in
    let y' = rw (← same) at y in
    let built = built_same (night_in s p.header) p.built q.built x.3 y'.3 in
    ap Ok (λ j. record { header = same j; sets = (x.1 ∙ sym y'.1) j; clear = (x.2 ∙ sym y'.2) j; built = built j })
pass_once s (Ok p) (Err r) x y = absurd (never p.header (number_of r.reason) r.place (sym y ∙ x.0))
pass_once s (Err r) (Ok p) x y = absurd (never p.header (number_of r.reason) r.place (sym x ∙ y.0))
pass_once s (Err r) (Err q) x y = said_once PassOver (Err r) (Err q) (again (sym x ∙ y))

pub set_once : SetOnce
set_once s i (Ok n) (Ok m) x y =
    let same : n.header ≡ m.header = same_header s n.header m.header x.0 y.0 in
    let y' = rw (← same) at y in
    ap Ok (λ j. record { header = same j; set = (x.1 ∙ sym y'.1) j })
set_once s i (Ok n) (Err r) x y = absurd (never n.header (number_of r.reason) r.place (sym y ∙ x.0))
set_once s i (Err r) (Ok n) x y = absurd (never n.header (number_of r.reason) r.place (sym x ∙ y.0))
set_once s i (Err r) (Err q) x y = said_once NodeSet (Err r) (Err q) (again (sym x ∙ y))

pub standing_once : StandingOnce
standing_once s i p (Ok a) (Ok b) x y =
    let same : a.header ≡ b.header = same_header s a.header b.header x.0 y.0 in
    let both : ◌≡◌ {A = Says Standing} (answers a.out) (answers b.out) = sym x.1 ∙ y.1 in
    let out : a.out ≡ b.out = cc in
    ap Ok (λ j. record { header = same j; out = out j })
standing_once s i p (Ok a) (Err r) x y = absurd (never a.out (number_of r.reason) r.place (sym y ∙ x.1))
standing_once s i p (Err r) (Ok a) x y = absurd (never a.out (number_of r.reason) r.place (sym x ∙ y.1))
standing_once s i p (Err r) (Err q) x y = said_once Stood (Err r) (Err q) (again (sym x ∙ y))
