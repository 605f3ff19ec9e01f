-- The counts that are there are compared with the header's, one by one.
use Prim.Native.Nat.{◌*◌}
use mathlib.Core.Path.{◌≡◌, refl}
use mathlib.Core.Bool.{Bool, true, false, not}
use mathlib.Core.List.{[], ◌∷◌}
use lib.Dec.{eqb}
use lib.ListN.{length}
use Rattle.std.specs.Prelude.{◌&&◌, if◌then◌else◌}
use Rattle.laws.specs.Choose.{any_of}
use Rattle.writes.specs.Writing.{miscounted, miscounted_by}
use Rattle.encoding.proofs.miscounted.Goals as goal

or_else : (a r t : Bool) → not r ≡ t → not (a && r) ≡ (if not a then true else t)
or_else true r t e = e
or_else false r t e = refl

differ : (a b c d e f : Bool) → not (a && (b && (c && (d && (e && (f && true)))))) ≡ any_of (not a ∷ not b ∷ not c ∷ not d ∷ not e ∷ not f ∷ [])
unfolding any_of
differ a b c d e f =
    or_else a (b && (c && (d && (e && (f && true))))) _
    (or_else b (c && (d && (e && (f && true)))) _
    (or_else c (d && (e && (f && true))) _
    (or_else d (e && (f && true)) _
    (or_else e (f && true) _ (or_else f true _ refl)))))

pub returns : goal.returns
unfolding miscounted miscounted_by
returns c =
    let v = c.args.values.now in
    let h = v.header in
    rw (c.ne.ensures, ← c.pairs_in.ensures.0, ← c.step_prices.ensures.0, ← c.link_prices.ensures.0)
    (differ (eqb (length v.relations.now) h.relations) (eqb (length v.grants.now) h.grants) (eqb (length v.nodes.now) h.nodes)
    (eqb (length v.pairs.now) (2 * c.pairs_in.result)) (eqb (length v.step_prices.now) c.step_prices.result)
    (eqb (length v.link_prices.now) c.link_prices.result))
