-- The view of a relation, by what was found of the subject's own grant and of the grant to any.
use Prim.Native.Nat.{ℕ, ◌<◌, ◌≤◌}
use mathlib.Core.Path.{◌≡◌, ◌∙◌, ap, sym, refl}
use borrow.Author.Tests.{le-ltb}
use Rattle.night.specs.declared.Grant.{Grant}
use Rattle.night.specs.declared.View.{View}
use Rattle.night.specs.Night.{Night, grant_of}
use Rattle.night.specs.Views.{any_subject, grant_on, seen_by, view_on}
use Rattle.night.proofs.Views.{own_replaces, any_serves}

module _ {j : ℕ} (N : Night) (day p r : ℕ) (own : j ≡ grant_on N day r p) where
  pub own_read : {g : Grant} {v : View} → j < N.header.grants → g ≡ grant_of N j → v ≡ seen_by g → v ≡ view_on N day p r
  own_read found read seen = seen ∙ ap seen_by (read ∙ ap (grant_of N) own) ∙ sym (own_replaces N day p r (rw own at found))

  pub any_read : {k : ℕ} {g : Grant} {v : View} → N.header.grants ≤ j → k ≡ grant_on N day r any_subject → k < N.header.grants → g ≡ grant_of N k → v ≡ seen_by g
      → v ≡ view_on N day p r
  any_read none any found read seen = seen ∙ ap seen_by (read ∙ ap (grant_of N) any) ∙ sym (any_serves N day p r (rw own at none) (rw any at found))

  pub none_read : {k : ℕ} {v : View} → N.header.grants ≤ j → k ≡ grant_on N day r any_subject → N.header.grants ≤ k → (v.clear ≡ 0) × (v.sealed ≡ 0) → v ≡ view_on N day p r
  unfolding view_on
  none_read none any none_any zero =
      rw (zero.0, zero.1, le-ltb (grant_on N day r p) N.header.grants (rw own at none), le-ltb (grant_on N day r any_subject) N.header.grants (rw any at none_any)) refl
