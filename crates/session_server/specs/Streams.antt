-- Private: `src/streams.rt`: what writing a whole text does.
-- What writing a whole text does.
use Rattle.std.specs.Prelude.{ℕ, ◌≤◌, List, length, take}
use Rattle.pq_base.specs.Shown.{Shown, TakesBytes, HasFailed, HasNoFault}
use Rattle.session_server.specs.declared.streams.Put.{Put}
use Rattle.session_server.specs.declared.streams.Put.TheVariants.{All, Failed}

-- all of it was written, or so many of its first bytes before the sink failed
abbrev pub IsPut : Shown → Shown → List ℕ → Put → Type 0
IsPut sink now text All = TakesBytes sink now text × HasNoFault sink now
IsPut sink now text (Failed count) =
    (count ≤ length text) × TakesBytes sink now (take count text) × HasFailed sink now
