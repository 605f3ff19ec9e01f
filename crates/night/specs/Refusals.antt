-- The refusals by number, and what an answer of the code says.
use Rattle.std.specs.Prelude.{ℕ, ◌≡◌, Result, Ok, Err}
use Rattle.laws.specs.Trials.{Says, answers, refuses}
use Rattle.night.specs.declared.refusals.Reason.{Reason}
use Rattle.night.specs.declared.refusals.Reason.TheVariants.{
  NoMark,
  UnknownVersion,
  WrongLength,
  BadCounts,
  BadRelation,
  BadGrant,
  BlindOwner,
  BadShape,
  BadAttributes,
  BadNeeded,
  BadPrice,
  NoCandidate,
  TooFewSteps,
  BadOffer,
  ShortRoom,
  NotAsked,
  KeptFromUser,
}
use Rattle.night.specs.declared.refusals.Refusal.{Refusal}

-- document 01's number of each, and those of the tickets
abbrev pub number_of : Reason → ℕ
number_of NoMark = 1
number_of UnknownVersion = 2
number_of WrongLength = 3
number_of BadCounts = 4
number_of BadRelation = 5
number_of BadGrant = 6
number_of BlindOwner = 7
number_of BadShape = 8
number_of BadAttributes = 9
number_of BadNeeded = 10
number_of BadPrice = 11
number_of NoCandidate = 12
number_of TooFewSteps = 13
number_of BadOffer = 14
number_of ShortRoom = 15
number_of NotAsked = 16
number_of KeptFromUser = 17

-- an answer of the code: the values, or refused with number and place
abbrev pub said : {A : Type 0} → Result A Refusal → Says A
said (Ok a) = answers a
said (Err r) = refuses (number_of r.reason) r.place

-- any two answers that say the same are the same
abbrev pub SaidOnce : Type 1
SaidOnce = (A : Type 0) (a b : Result A Refusal) → said a ≡ said b → a ≡ b
