-- `all` asks every place from `from` on.
use Rattle.std.proofs.Common.{rules, tests}
use Rattle.std.specs.Slice.Iter.{iter_steps}
use Rattle.std.proofs.lemmas.Iterator.{YieldsList-from_slice}
use Rattle.std.proofs.lemmas.Iterator.Adapters.{YieldsList-from_skip}
use Rattle.std.proofs.lemmas.Iterator.Search.{all_from_yields_List}
use Rattle.show.proofs.rooms.kept.Goals as goal

pub returns : goal.returns
returns g c =
    all_from_yields_List {v = λ found. found.now} {s = c.skip.result} (λ found. g.T.PartialEq.eq found c.args.value) _ _ _ c.all.ensures.ran
    (YieldsList-from_skip {steps = iter_steps} c.args.from (rw c.skip.ensures.source (YieldsList-from_slice c.args.room.now c.iter.ensures.rest)) c.skip.ensures.count)
    (λ x b q k. search (rules, tests))
