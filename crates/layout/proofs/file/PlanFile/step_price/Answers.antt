-- In the table a price is read by its number, and past the rows or the columns it is 0.
use mathlib.Core.Path.{sym}
use native.Mathlib.Omega.{arith}
use Rattle.format.proofs.Sections.{step_price_past_nodes, step_price_past_subjects}
use Rattle.format.proofs.Read.{step_price_read}
use Rattle.layout.proofs.file.PlanFile.step_price.Goals as goal
use Rattle.layout.proofs.file.PlanFile.step_price.Goals.{then-h-i-via-then-h-i, then-h-i-via-else-h-i+then-h-p}

pub returns-then-h-i : goal.returns-then-h-i
returns-then-h-i c =
    let b = c.args.self.now in
    elim c.then-h-i.branch [
      | then-h-i-via-then-h-i w ↦ sym (step_price_past_nodes b.bytes.now b.header c.args.i c.args.p (omega arith))
      | then-h-i-via-else-h-i+then-h-p w ↦ sym (step_price_past_subjects b.bytes.now b.header c.args.i c.args.p (omega arith))
    ]

pub returns : goal.returns
returns c =
    step_price_read c.args.self.now.bytes.now c.args.self.now.header c.args.i c.args.p (omega arith) (omega arith) c.cell.ensures.0 c.price.ensures
