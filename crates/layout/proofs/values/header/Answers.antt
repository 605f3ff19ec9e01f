-- Each field is read where the definition has it.
use mathlib.Core.Path.{ap, ◌∙◌}
use mathlib.Core.Bool.{Bool}
use lib.ListN.{get_or}
use Rattle.laws.specs.BigEndian.{be}
use Rattle.std.specs.Prelude.{if◌then◌else◌}
use Rattle.format.proofs.Read.{header_made}
use Rattle.layout.proofs.values.header.Goals as goal

pub returns : goal.returns
returns c =
    let s = c.args.file.now in
    header_made s
    c.two-version.ensures
    c.byte.ensures
    c.byte-2.ensures
    c.byte-3.ensures
    c.byte-4.ensures
    c.two.ensures
    c.four.ensures
    (c.byte_if.ensures ∙ ap (λ (t : Bool). if t then get_or s 15 0 else 0) c.delivers.ensures)
    (c.byte_if-2.ensures ∙ ap (λ (t : Bool). if t then get_or s 16 0 else 0) c.has_pairs.ensures)
    (c.two_or.ensures ∙ ap (λ (t : Bool). if t then be s 17 2 else 0) c.has_days.ensures)
