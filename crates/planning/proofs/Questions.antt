-- The answer to a question is one.
use Rattle.model.specs.Reasons.{Standing}
use Rattle.night.proofs.Said.{said_once}
use Rattle.planning.specs.Answers.{WhyOnce}

pub why_once : WhyOnce
why_once a b e = said_once Standing a b e
