-- Document 01's sample night as values, written by samples/night.py.
use Rattle.std.specs.Prelude.{ℕ, [], ◌∷◌}
use Rattle.night.specs.Night.{Night}

-- its values in a version, with a user
unfoldable pub sample_in : ℕ → ℕ → Night
sample_in version user =
    record {
      header = record { version = version; subjects = 6; relations = 2; attributes = 6; nodes = 6; grants = 14; steps = 76; user = user; pairs = 0; day = 0 };
      relations =
          record { owner = 0; set = 15 }
          ∷ record { owner = 1; set = 48 }
          ∷ [];
      grants =
          record { relation = 0; subject = 0; first = 0; last = 65535; clear = 15; sealed = 0 }
          ∷ record { relation = 0; subject = 1; first = 0; last = 65535; clear = 2; sealed = 13 }
          ∷ record { relation = 0; subject = 2; first = 0; last = 65535; clear = 13; sealed = 0 }
          ∷ record { relation = 0; subject = 3; first = 0; last = 65535; clear = 12; sealed = 1 }
          ∷ record { relation = 0; subject = 4; first = 0; last = 65535; clear = 14; sealed = 1 }
          ∷ record { relation = 0; subject = 5; first = 0; last = 65535; clear = 9; sealed = 4 }
          ∷ record { relation = 0; subject = 255; first = 0; last = 65535; clear = 12; sealed = 0 }
          ∷ record { relation = 1; subject = 0; first = 0; last = 65535; clear = 16; sealed = 32 }
          ∷ record { relation = 1; subject = 1; first = 0; last = 65535; clear = 48; sealed = 0 }
          ∷ record { relation = 1; subject = 2; first = 0; last = 65535; clear = 48; sealed = 0 }
          ∷ record { relation = 1; subject = 3; first = 0; last = 65535; clear = 0; sealed = 48 }
          ∷ record { relation = 1; subject = 4; first = 0; last = 65535; clear = 32; sealed = 16 }
          ∷ record { relation = 1; subject = 5; first = 0; last = 65535; clear = 16; sealed = 32 }
          ∷ record { relation = 1; subject = 255; first = 0; last = 65535; clear = 0; sealed = 32 }
          ∷ [];
      nodes =
          record { kind = 0; left = 255; right = 255; x = 0; y = 255; spare1 = 0; spare2 = 0; spare3 = 0; set = 13; needed = 0; size = 4; first = 0; count = 0 }
          ∷ record { kind = 2; left = 0; right = 255; x = 2; y = 255; spare1 = 0; spare2 = 0; spare3 = 0; set = 0; needed = 0; size = 2; first = 0; count = 0 }
          ∷ record { kind = 0; left = 255; right = 255; x = 1; y = 255; spare1 = 0; spare2 = 0; spare3 = 0; set = 48; needed = 0; size = 4; first = 0; count = 0 }
          ∷ record { kind = 5; left = 1; right = 2; x = 0; y = 4; spare1 = 0; spare2 = 0; spare3 = 0; set = 0; needed = 0; size = 3; first = 0; count = 0 }
          ∷ record { kind = 6; left = 3; right = 255; x = 5; y = 255; spare1 = 0; spare2 = 0; spare3 = 0; set = 8; needed = 0; size = 1; first = 0; count = 0 }
          ∷ record { kind = 2; left = 4; right = 255; x = 5; y = 255; spare1 = 0; spare2 = 0; spare3 = 0; set = 0; needed = 32; size = 1; first = 0; count = 0 }
          ∷ [];
      pairs = [];
      step_prices =
          (0 ∷ 0 ∷ 0 ∷ 0 ∷ 0 ∷ 0 ∷ [])
          ∷ (3 ∷ 3 ∷ 10 ∷ 1 ∷ 2 ∷ 1 ∷ [])
          ∷ (0 ∷ 0 ∷ 0 ∷ 0 ∷ 0 ∷ 0 ∷ [])
          ∷ (3 ∷ 3 ∷ 10 ∷ 1 ∷ 2 ∷ 1 ∷ [])
          ∷ (3 ∷ 3 ∷ 10 ∷ 1 ∷ 2 ∷ 1 ∷ [])
          ∷ (3 ∷ 3 ∷ 10 ∷ 1 ∷ 2 ∷ 1 ∷ [])
          ∷ [];
      link_prices =
          (0 ∷ 1 ∷ 1 ∷ 1 ∷ 1 ∷ 1 ∷ [])
          ∷ (1 ∷ 0 ∷ 1 ∷ 1 ∷ 1 ∷ 1 ∷ [])
          ∷ (1 ∷ 1 ∷ 0 ∷ 1 ∷ 1 ∷ 1 ∷ [])
          ∷ (1 ∷ 1 ∷ 1 ∷ 0 ∷ 1 ∷ 1 ∷ [])
          ∷ (1 ∷ 1 ∷ 1 ∷ 1 ∷ 0 ∷ 1 ∷ [])
          ∷ (1 ∷ 1 ∷ 1 ∷ 1 ∷ 1 ∷ 0 ∷ [])
          ∷ [];
    }

-- what samples/night.axp holds
abbrev pub sample_night : Night
sample_night = sample_in 1 0

-- what samples/night2.axp holds: U, subject 2, is the user
abbrev pub sample_user : Night
sample_user = sample_in 2 2
