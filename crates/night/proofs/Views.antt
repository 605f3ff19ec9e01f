-- Small facts on views.
use Prim.Native.Nat.{ℕ, ◌≤◌}
use mathlib.Core.Path.{◌≡◌, refl, ap}
use mathlib.Core.Bool.{true}
use native.Mathlib.Omega.{arith}
use borrow.Author.Tests.{eq-eqb, lt-ltb, le-ltb}
use Rattle.night.specs.declared.Grant.{Grant}
use Rattle.night.specs.declared.View.{View}
use Rattle.night.specs.Night.{Night}
use Rattle.night.specs.Views.{any_subject, is_for, shares_day, is_for_on, grant_on, view_on, OwnReplaces, AnyServes, NothingSeen}

pub is-for : (g : Grant) (r p : ℕ) → g.relation ≡ r → g.subject ≡ p → is_for g r p ≡ true
unfolding is_for
is-for g r p e q = rw (eq-eqb g.relation r e) (eq-eqb g.subject p q)

-- two stretches of days share one where each begins no later than the other ends
pub shares-day : (g : Grant) (from to : ℕ) → g.first ≤ to → from ≤ g.last → shares_day g from to ≡ true
unfolding shares_day
shares-day g from to a b = rw (le-ltb to g.first a, le-ltb g.last from b) refl

pub is-for-on : (g : Grant) (r p from to : ℕ) → g.relation ≡ r → g.subject ≡ p → g.first ≤ to → from ≤ g.last → is_for_on g r p from to ≡ true
unfolding is_for_on
is-for-on g r p from to e q a b = rw (is-for g r p e q) (shares-day g from to a b)

-- an own grant replaces any entirely; or else any serves; or else nothing is seen
pub own_replaces : OwnReplaces
unfolding view_on
own_replaces N day p r l = rw (lt-ltb (grant_on N day r p) N.header.grants l) refl

pub any_serves : AnyServes
unfolding view_on
any_serves N day p r none l = rw (le-ltb (grant_on N day r p) N.header.grants none, lt-ltb (grant_on N day r any_subject) N.header.grants l) refl

pub nothing_seen : NothingSeen
unfolding view_on
nothing_seen N day p r none nobody =
    rw (le-ltb (grant_on N day r p) N.header.grants none, le-ltb (grant_on N day r any_subject) N.header.grants nobody) refl

-- so where there is no grant at all
pub no_grants : (N : Night) (day p r : ℕ) → N.header.grants ≡ 0 → (view_on N day p r).clear ≡ 0
no_grants N day p r e = ap (λ (v : View). v.clear) (nothing_seen N day p r (omega arith) (omega arith))
