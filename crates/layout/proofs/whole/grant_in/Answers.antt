-- Each field is read where the definition has it.
use Rattle.format.proofs.Read.{grant_made}
use Rattle.layout.proofs.whole.grant_in.Goals as goal

pub returns : goal.returns
returns c =
    grant_made c.args.version c.args.file.now c.args.at c.has_days-dated.ensures c.two_or-first.ensures c.two_or-last.ensures c.eight_in.ensures c.eight_in-2.ensures
