-- 12 never comes up in a version with a user, from the verdict.
use Rattle.verdicts.proofs.User.{never_without}
use Rattle.demands.specs.User.{NeverTwelve}

pub never_twelve : NeverTwelve
never_twelve s before after place d says = never_without s before place d says.0
