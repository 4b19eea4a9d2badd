-- Each connection that the listeners gave is in one entry, with its link.
use Rattle.std.specs.Prelude.{◌≡◌, ◌⊎◌, ◌≤◌, ℕ, true, false, ◌-◌, ◌==◌, ◌&&◌, nat_lt, if◌then◌else◌, List, length, drop, Option, Some, None, IfSome, slice_get, All, IsTrue, Bool}
use Rattle.std.specs.List.{count_by}
use Rattle.std.specs.Option.{option_map, option_map_or, option_and_then}
use Rattle.service_core.specs.Link.{Identity}
use Rattle.service_core.specs.declared.ended.Ended.{Ended}
use Rattle.service_core.specs.declared.ended.How.{How}
use Rattle.server_run.specs.declared.entry.Entry.{Entry}
use Rattle.server_run.specs.declared.outcome.Outcome.{Outcome}
use Rattle.server_run.specs.declared.outcome.Outcome.TheVariants as outcome
use Rattle.server_run.specs.Listener.{Mark}
use Rattle.server_run.specs.Outcome.{outcome_of}

-- 1 for a number below n
abbrev pub once_below : ℕ → ℕ → ℕ
once_below n k = if nat_lt k n then 1 else 0

-- how many of the entries have this serial number
abbrev pub serial_count : {L : Type 0} → ℕ → List (Entry L) → ℕ
serial_count serial entries = count_by (λ e. e.serial == serial) entries

-- how many of the entries have this place of this listener
abbrev pub place_count : {L : Type 0} → ℕ → ℕ → List (Entry L) → ℕ
place_count token place entries = count_by (λ e. (e.token == token) && (e.place == place)) entries

-- what a listener tells of itself, by its token; 0 where there is no such listener
abbrev pub given_at : {Li : Type 0} → (Li → ℕ) → List Li → ℕ → ℕ
given_at given listeners token = option_map_or given (slice_get listeners token) 0

abbrev pub left_at : {Li L : Type 0} → (Li → Option (List L)) → List Li → ℕ → Option (List L)
left_at left listeners token = option_and_then left (slice_get listeners token)

abbrev pub rest_at : {Li : Type 0} → (Li → Option (List Mark)) → List Li → ℕ → Option (List Mark)
rest_at rest listeners token = option_and_then rest (slice_get listeners token)

-- how many links this listener gave
abbrev pub rise : {Li : Type 0} → (Li → ℕ) → List Li → List Li → ℕ → ℕ
rise given old new token = given_at given new token - given_at given old token

-- A link that its service did not end comes back as it was given, or as the future of such a service hands it back.
abbrev pub IsLeftAs : {L : Type 0} → (L → L → Type 0) → L → L → Outcome → Type 0
IsLeftAs may_leave link back outcome.Served = ⊥
IsLeftAs may_leave link back outcome.ReadFault = ⊥
IsLeftAs may_leave link back outcome.WriteFault = ⊥
IsLeftAs may_leave link back outcome.Upgraded = ⊥
IsLeftAs may_leave link back (outcome.Lost (Some worker)) = (back ≡ link) ⊎ may_leave link back
IsLeftAs may_leave link back (outcome.Lost None) = back ≡ link
IsLeftAs may_leave link back (outcome.Stopped false) = back ≡ link
IsLeftAs may_leave link back (outcome.Stopped true) = may_leave link back
IsLeftAs may_leave link back outcome.Memory = may_leave link back

-- A link comes back as its service ended it, or, after a stop, for want of memory or of a worker, as it stood then.
abbrev pub ComesBack : {L : Type 0} → (L → Ended L → Type 0) → (L → L → Type 0) → L → L → Outcome → Type 0
ComesBack may_serve may_leave link back end =
    ((how : How) × (end ≡ outcome_of how) × may_serve link (record { link = back; how = how }))
    ⊎ IsLeftAs may_leave link back end

-- The entry has the link that stood at its place, as it came back.
pub record IsServedFrom {L : Type 0} (identity : L → Identity) (may_serve : ℕ → L → Ended L → Type 0) (may_leave : ℕ → L → L → Type 0)
    (left : Option (List L)) (entry : Entry L) : Type 0 where
  -- the link as it was given
  pub link : L
  pub in_place : IfSome left (λ links. slice_get links entry.place ≡ Some link)
  pub same : identity entry.link ≡ identity link
  pub comes_back : ComesBack (may_serve entry.token) (may_leave entry.token) link entry.link entry.outcome

-- The entries are the connections that the listeners gave in between.
pub record Delivers {Li L : Type 0} (given : Li → ℕ) (left : Li → Option (List L)) (identity : L → Identity) (may_serve : ℕ → L → Ended L → Type 0)
    (may_leave : ℕ → L → L → Type 0) (old new : List Li) (entries : List (Entry L)) : Type 0 where
  -- the serials are the numbers below their count, each once
  pub serials : (serial : ℕ) → serial_count serial entries ≡ once_below (length entries) serial
  -- the places of a listener are the numbers below its rise, each once
  pub places : (token place : ℕ) → place_count token place entries ≡ once_below (rise given old new token) place
  -- the entry with a place has the link at that place
  pub links : All (λ entry. IsServedFrom identity may_serve may_leave (left_at left old entry.token) entry) entries
  -- a listener that tells what is left has lost just these
  pub remains : (token : ℕ) → left_at left new token ≡ option_map (drop (rise given old new token)) (left_at left old token)
  pub rises : (token : ℕ) → given_at given old token ≤ given_at given new token

-- this listener has answered that it ended
abbrev pub HasEnded : {Li : Type 0} → (Li → Bool) → List Li → ℕ → Type 0
HasEnded ended listeners token = IfSome (slice_get listeners token) (λ listener. IsTrue (ended listener))
