-- Reading's refusal; else the candidates of the night.
use mathlib.Core.Path.{sym, ap, ◌∙◌}
use Rattle.std.proofs.lemmas.Result.{err_from_is_err_and}
use Rattle.laws.specs.Trials.{answers}
use Rattle.laws.proofs.Trials.{refused_alike}
use Rattle.format.specs.Layout.{header_of, night_of}
use Rattle.model.specs.Candidates.{candidate_set}
use Rattle.trials.specs.Trials.{trials, check_of}
use Rattle.planning.specs.Answers.{candidates_of}
use Rattle.planning.proofs.Answered.{candidates_accepted}
use Rattle.planning.proofs.candidates.Goals as goal

pub returns-in_err-candidate_set : goal.returns-in_err-candidate_set
unfolding check_of candidates_of
returns-in_err-candidate_set c =
    let s = c.args.file.now in
    let p = err_from_is_err_and c.from_residual.result c.from_residual.ensures.1 in
    rw (p.1, p.2) (sym (refused_alike (trials s) (header_of s) (candidate_set (night_of s) c.args.node) _ _ c.in_err-candidate_set.ensures))

pub returns : goal.returns
returns c =
    let n = c.in_ok-candidate_set.field-0 in
    ap answers c.in_ok-candidate_set.ensures.1 ∙ sym (candidates_accepted c.args.file.now n.header c.args.node c.in_ok-candidate_set.ensures.0)
