-- In the table a price is read by its number, behind the step prices, and past the rows or the columns it is 0.
use mathlib.Core.Path.{sym}
use native.Mathlib.Omega.{arith}
use Rattle.format.proofs.Sections.{link_price_past_from, link_price_past_to}
use Rattle.format.proofs.Read.{link_price_read}
use Rattle.layout.proofs.file.PlanFile.link_price.Goals as goal
use Rattle.layout.proofs.file.PlanFile.link_price.Goals.{then-h-p-via-then-h-p, then-h-p-via-else-h-p+then-h-q}

pub returns-then-h-p : goal.returns-then-h-p
returns-then-h-p c =
    let b = c.args.self.now in
    elim c.then-h-p.branch [
      | then-h-p-via-then-h-p w ↦ sym (link_price_past_from b.bytes.now b.header c.args.p c.args.q (omega arith))
      | then-h-p-via-else-h-p+then-h-q w ↦ sym (link_price_past_to b.bytes.now b.header c.args.p c.args.q (omega arith))
    ]

pub returns : goal.returns
returns c =
    link_price_read c.args.self.now.bytes.now c.args.self.now.header c.args.p c.args.q (omega arith) (omega arith) c.step_prices.ensures.0 c.cell.ensures.0 c.price.ensures
