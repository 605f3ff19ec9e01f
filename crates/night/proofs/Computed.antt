-- What each version has, and who sees what on which day, by computation.
use mathlib.Core.Path.{refl}
use Rattle.laws.specs.Choose.{any_of}
use Rattle.laws.specs.First.{first}
use Rattle.sets.specs.Sets.{union, unions}
use Rattle.night.specs.Versions.{known, delivers, has_pairs, has_days, last_kind, header_length, grant_length, node_length}
use Rattle.night.specs.Night.{grant_of}
use Rattle.night.specs.Views.{is_for, shares_day, is_for_on, grant_on, view_on, clear_on, sealed_on}
use Rattle.night.specs.Days.{in_version}
use Rattle.night.specs.ByVersion.{ByVersion}
use Rattle.night.specs.ByDay.{ByDay}

pub by_version : ByVersion
unfolding any_of known delivers has_pairs has_days last_kind header_length grant_length node_length
by_version = record { known_these = refl; known_others = refl; users = refl; pairs = refl; days = refl; last_kinds = refl; headers = refl; grants = refl; nodes = refl }

pub by_day : ByDay
unfolding first union unions grant_of is_for shares_day is_for_on grant_on view_on clear_on sealed_on in_version
by_day =
    record {
      in-force = refl;
      in_force_once = refl;
      in_force_always = refl;
      shares = refl;
      shares_within = refl;
      shares_none = refl;
      for_on = refl;
      for_others = refl;
      own = refl;
      own_over = refl;
      own_empty = refl;
      any_only = refl;
      clear_days = refl;
      sealed_days = refl;
      night_day = refl;
      night_clear = refl;
      night_sealed = refl;
    }
