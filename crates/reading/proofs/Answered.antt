-- What the answers of `grant_records` leave no choice in.
use Prim.Native.Nat.{ℕ, ◌-◌, ◌*◌, ◌≤◌, min}
use mathlib.Core.Path.{◌≡◌, refl, sym, ap, ◌∙◌}
use mathlib.Core.List.{List, []}
use native.Mathlib.Nat.{mul-le-mul}
use native.Mathlib.Omega.{arith}
use Rattle.std.specs.Prelude.{Result, Ok, Err}
use Rattle.laws.proofs.Trials.{never}
use Rattle.night.specs.declared.refusals.Refusal.{Refusal}
use Rattle.night.specs.Refusals.{number_of}
use Rattle.night.proofs.Said.{said_once}
use Rattle.night.specs.Versions.{grant_length}
use Rattle.format.proofs.Written.{grant_least}
use lib.ListN.{length, take, drop, length-take, length-drop}
use Rattle.laws.specs.Trials.{Says, answers, refuses}
use Rattle.night.specs.declared.Header.{Header}
use Rattle.format.specs.Layout.{grants_from, nodes_from, night_in}
use Rattle.reading.specs.Answers.{grants_part, EmptyWhenRefused, ToldOnce}
use Rattle.trials.specs.Trials.{check_of}
use Rattle.trials.proofs.Opened.{accepted_header, accepted_length, nodes_within}
use Rattle.trials.proofs.Promises.{accepted_promises}

-- an accepted file has a grant, so its part is not empty
part_some : (s : List ℕ) (h : Header) → check_of s ≡ answers h → take (nodes_from h - grants_from h) (drop (grants_from h) s) ≡ [] → ⊥
unfolding night_in nodes_from
part_some s h e empty =
    let some : 1 ≤ h.grants = rw (accepted_header s h e) at (accepted_promises s h e).counts.grants_some in
    let long : min (nodes_from h - grants_from h) (length s - grants_from h) ≡ 0 = sym (simp (length-take, length-drop)) ∙ ap length empty in
    let records : 1 * 1 ≤ grant_length h.version * h.grants = mul-le-mul {n₁ = 1} {m₁ = 1} {n₂ = grant_length h.version} {m₂ = h.grants} (omega (arith, grant_least h.version)) some in
    omega (arith, accepted_length s h e, nodes_within h, records)

pub empty_when_refused : EmptyWhenRefused
empty_when_refused s = go (check_of s) refl
  where
    go : (v : Says Header) → check_of s ≡ v → (grants_part v s ≡ [] → (n : ℕ) × (p : ℕ) × (check_of s ≡ refuses n p)) × (((n : ℕ) × (p : ℕ) × (check_of s ≡ refuses n p)) → grants_part v s ≡ [])
    go (answers h) e = (λ empty. absurd (part_some s h e empty), λ w. absurd (let z : ◌≡◌ {A = ℕ} 0 1 = cc in omega arith))
    go (refuses n p) e = (λ empty. (n, p, e), λ w. refl)

-- a part and a refusal never go together, and of each there is one
pub told_once : ToldOnce
told_once v s (Ok a) (Ok b) x y = ap Ok (x.0 ∙ sym y.0)
told_once v s (Ok a) (Err r) x y = absurd (never x.1 (number_of r.reason) r.place (sym y ∙ x.2))
told_once v s (Err r) (Ok a) x y = absurd (never y.1 (number_of r.reason) r.place (sym x ∙ y.2))
told_once v s (Err r) (Err q) x y =
    let alike : ◌≡◌ {A = Result Header Refusal} (Err r) (Err q) = said_once Header (Err r) (Err q) (sym x ∙ y) in
    let same : r ≡ q = cc in
    ap Err same
