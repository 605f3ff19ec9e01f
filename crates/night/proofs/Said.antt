-- An answer that says the same is the same: a number stands for one reason.
use Prim.Native.Nat.{ℕ}
use mathlib.Core.Path.{◌≡◌, refl, sym, ap, ◌∙◌}
use mathlib.Core.List.{[], ◌∷◌}
use native.Mathlib.Omega.{arith}
use lib.ListN.{get_or}
use Rattle.std.specs.Prelude.{Ok, Err}
use Rattle.night.specs.declared.refusals.Reason.{Reason}
use Rattle.night.specs.declared.refusals.Reason.TheVariants.{
  NoMark,
  UnknownVersion,
  WrongLength,
  BadCounts,
  BadRelation,
  BadGrant,
  BlindOwner,
  BadShape,
  BadAttributes,
  BadNeeded,
  BadPrice,
  NoCandidate,
  TooFewSteps,
  BadOffer,
  ShortRoom,
  NotAsked,
  KeptFromUser,
}
use Rattle.night.specs.declared.refusals.Refusal.{Refusal}
use Rattle.night.specs.Refusals.{number_of, SaidOnce}

-- the reason with a number
reason_of : ℕ → Reason
reason_of n =
    get_or
    (NoMark ∷ NoMark ∷ UnknownVersion ∷ WrongLength ∷ BadCounts ∷ BadRelation ∷ BadGrant ∷ BlindOwner ∷ BadShape ∷ BadAttributes ∷ BadNeeded ∷ BadPrice
    ∷ NoCandidate ∷ TooFewSteps ∷ BadOffer ∷ ShortRoom ∷ NotAsked ∷ KeptFromUser ∷ [])
    n NoMark

reason_back : (r : Reason) → reason_of (number_of r) ≡ r
unfolding reason_of
reason_back NoMark = refl
reason_back UnknownVersion = refl
reason_back WrongLength = refl
reason_back BadCounts = refl
reason_back BadRelation = refl
reason_back BadGrant = refl
reason_back BlindOwner = refl
reason_back BadShape = refl
reason_back BadAttributes = refl
reason_back BadNeeded = refl
reason_back BadPrice = refl
reason_back NoCandidate = refl
reason_back TooFewSteps = refl
reason_back BadOffer = refl
reason_back ShortRoom = refl
reason_back NotAsked = refl
reason_back KeptFromUser = refl

same_refusal : (r q : Refusal) → r.reason ≡ q.reason → r.place ≡ q.place → r ≡ q
same_refusal r q e f = rw (e, f) refl

pub said_once : SaidOnce
said_once A (Ok a) (Ok b) e = let same : a ≡ b = cc in ap Ok same
said_once A (Ok a) (Err q) e = absurd (let z : ◌≡◌ {A = ℕ} 0 1 = cc in omega arith)
said_once A (Err r) (Ok b) e = absurd (let z : ◌≡◌ {A = ℕ} 0 1 = cc in omega arith)
said_once A (Err r) (Err q) e =
    let number : number_of r.reason ≡ number_of q.reason = cc in
    let place : r.place ≡ q.place = cc in
    ap Err (same_refusal r q (sym (reason_back r.reason) ∙ (ap reason_of number ∙ reason_back q.reason)) place)
