-- In its section a price is read where it stands, and past the section is 0.
use mathlib.Core.Path.{sym}
use native.Mathlib.Omega.{arith}
use Rattle.format.proofs.Sections.{price_past}
use Rattle.format.proofs.Read.{price_read}
use Rattle.layout.proofs.file.PlanFile.price.Goals as goal

pub returns-then-prices-i : goal.returns-then-prices-i
returns-then-prices-i c =
    sym (price_past c.args.self.now.bytes.now c.args.self.now.header c.args.i (omega arith))

pub returns : goal.returns
returns c =
    price_read c.args.self.now.bytes.now c.args.self.now.header c.args.i (omega arith) c.step_prices_from.ensures.0 c.four.ensures
