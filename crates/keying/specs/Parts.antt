-- What the user opens, where everything else leaves sealed.
use Rattle.std.specs.Prelude.{ℕ, if◌then◌else◌}
use Rattle.night.specs.declared.Header.{Header}
use Rattle.night.specs.Versions.{delivers}
use Rattle.keying.specs.declared.keys.Delivery.{Delivery}

-- the user opens what leaves the root sealed; nothing in a version without a user
unfoldable pub delivery_of : Header → ℕ → Delivery
delivery_of h sealed = record { user = h.user; opened = if delivers h.version then sealed else 0 }
