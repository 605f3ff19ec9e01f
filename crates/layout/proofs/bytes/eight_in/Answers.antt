-- Each byte 256 times the next.
use native.Mathlib.Nat.{add-zero}
use native.Mathlib.Omega.{arith}
use Rattle.laws.specs.BigEndian.{be}
use Rattle.layout.proofs.bytes.eight_in.Goals as goal

pub returns : goal.returns
unfolding be
returns c = rw add-zero (omega (arith, c.from_be_bytes.ensures))
