-- One record more, right behind the others.
use native.Mathlib.Omega.{arith}
use Rattle.encoding.proofs.Section.{none_yet, one_more, fits_more}
use Rattle.encoding.proofs.sections.put_records.Goals as goal

pub loop-i-init : goal.loop-i-init
loop-i-init g c = (none_yet (g.T.Record.bytes_of c.args.version) c.args.records.now _ _, λ k d l. absurd (omega arith))

pub loop-i-preserved : goal.loop-i-preserved
loop-i-preserved g c =
    let wide = g.met.T.Record.one_length c.args.version in
    let x = c.index-records-i in (
      one_more (g.T.Record.bytes_of c.args.version) (g.T.Record.length_of c.args.version) wide c.args.records.now x.result c.loop-i-test.true
          x.is c.loop-i.invariant.0 (rw c.length.ensures at c.put.ensures.stored),
      fits_more g.T.Record.fits c.args.records.now x.result c.loop-i-test.true x.is c.loop-i.invariant.1 c.put.ensures.in_range,
    )
