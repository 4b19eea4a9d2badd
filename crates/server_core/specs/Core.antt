-- The bookkeeping of an accept loop as plain data: where each event is allowed, and what it changes.
use Rattle.std.specs.Prelude.{◌≡◌, ℕ, ◌+◌, ◌-◌, ◌^◌, ◌==◌, min, Bool, true, false, not, ◌&&◌, ◌≤◌, ◌<◌, nat_lt, cond, List, [], ◌∷◌, ◌++◌, length, sum, find, take, drop, replicate, nat_eq, Option, Some, None, is_some, is_none, slice_index, slice_index_or, slice_set, refl}
use Rattle.std.specs.List.{list_any, list_all, position_or_len, range_with_len, swap_remove, IsDistinct}
use Rattle.std.specs.Coded.{Coded, code_by, coded×, coded_ℕ, coded_bool, coded_list, coded_option}
use Rattle.std.specs.FinSet as set
use Rattle.server_core.specs.Numbers.{Numbers}
use Rattle.server_core.specs.declared.command.Command.TheVariants.{Pause, Resume, Stop}
use Rattle.server_core.specs.declared.event.Event.{Event}
use Rattle.server_core.specs.declared.event.Event.TheVariants.{Command, Notice, Back, Got, Sent, RingFull, Faulted, Replaced, Retired, ListenerFailed, ListenerEnded}

pub record Core : Type 0 where
  pub ended : List Bool  -- by listener
  pub failures : List ℕ  -- by listener, since its last connection
  pub waiting : Option ℕ  -- the token of the listener that gave the connection
  pub order : List ℕ  -- the workers that are asked in turn
  pub next : ℕ  -- the place in the order that is asked first
  pub free : Numbers
  pub out : List ℕ  -- by worker: how many connections it has
  pub retired : Numbers
  pub given : ℕ
  pub done : ℕ
  pub paused : Bool
  pub stopping : Option Bool  -- whether the first stop was graceful

-- a core is stored as the tuple of its fields
abbrev pub core_code : Coded Core
core_code =
    code_by
    (List Bool × (List ℕ × (Option ℕ × (List ℕ × (ℕ × (Numbers × (List ℕ × (Numbers × (ℕ × (ℕ × (Bool × Option Bool)))))))))))
    (coded× (coded_list coded_bool) (coded× (coded_list coded_ℕ) (coded× (coded_option coded_ℕ) (coded× (coded_list coded_ℕ) (coded× coded_ℕ (coded× (set.code coded_ℕ) (coded× (coded_list coded_ℕ) (coded× (set.code coded_ℕ) (coded× coded_ℕ (coded× coded_ℕ (coded× coded_bool (coded_option coded_bool))))))))))))
    (λ s. (s.ended, (s.failures, (s.waiting, (s.order, (s.next, (s.free, (s.out, (s.retired, (s.given, (s.done, (s.paused, s.stopping))))))))))))
    (λ p. record { ended = p.0; failures = p.1.0; waiting = p.1.1.0; order = p.1.1.1.0; next = p.1.1.1.1.0; free = p.1.1.1.1.1.0; out = p.1.1.1.1.1.1.0; retired = p.1.1.1.1.1.1.1.0; given = p.1.1.1.1.1.1.1.1.0; done = p.1.1.1.1.1.1.1.1.1.0; paused = p.1.1.1.1.1.1.1.1.1.1.0; stopping = p.1.1.1.1.1.1.1.1.1.1.1 })
    (λ _. refl)

-- at the start all workers are in order and free
abbrev pub fresh : ℕ → ℕ → Core
fresh workers listeners = record {
  ended = replicate listeners false;
  failures = replicate listeners 0;
  waiting = None;
  order = range_with_len 0 workers;
  next = 0;
  free = set.from_list (range_with_len 0 workers);
  out = replicate workers 0;
  retired = set.empty;
  given = 0;
  done = 0;
  paused = false;
  stopping = None;
}

-- w is the number of a worker
abbrev pub is_worker : Core → ℕ → Bool
is_worker s w = nat_lt w (length s.out)

-- t is the number of a listener that isn't ended
abbrev pub is_open : Core → ℕ → Bool
is_open s t = nat_lt t (length s.ended) && not (slice_index_or s.ended t true)

abbrev pub in_order : List ℕ → ℕ → Bool
in_order order w = list_any (λ x. x == w) order

-- the order from the place k on and round
abbrev pub round : List ℕ → ℕ → List ℕ
round order k = drop k order ++ take k order

-- the first free worker from next on and round
abbrev pub first_free : Core → Option ℕ
first_free s = find (λ w. set.contains s.free w) (round s.order s.next)

-- the same among those that aren't passed over
abbrev pub picked : Core → Numbers → Option ℕ
picked s passed = find (λ w. set.contains s.free w && not (set.contains passed w)) (round s.order s.next)

abbrev pub is_at : Option ℕ → ℕ → Bool
is_at None w = false
is_at (Some v) w = v == w

-- something waits, and w is the worker whose turn it is
abbrev pub may_place : Core → ℕ → Bool
may_place s w = is_worker s w && is_some s.waiting && is_at (first_free s) w

-- w is neither in order nor retired, and nothing is out at it
abbrev pub may_return : Core → ℕ → Bool
may_return s w = is_worker s w && not (in_order s.order w) && not (set.contains s.retired w) && (slice_index s.out w == 0)

-- no connection waits, and one more may be taken
abbrev pub may_take : Core → Bool
may_take s = is_none s.waiting && not s.paused && is_none s.stopping && nat_lt s.given (2 ^ 60)

abbrev pub allowed : Core → Event → Bool
allowed s (Command command) = true
allowed s (Notice w) = is_worker s w
allowed s (Back w) = is_worker s w && nat_lt 0 (slice_index s.out w)
allowed s (Got t) = is_open s t && may_take s
allowed s (Sent w remains) = may_place s w
allowed s (RingFull w) = may_place s w
allowed s (Faulted w) = is_worker s w && in_order s.order w
allowed s (Replaced w) = may_return s w
allowed s (Retired w) = may_return s w
allowed s (ListenerFailed t) = is_open s t
allowed s (ListenerEnded t) = is_open s t

abbrev pub held : Option ℕ → ℕ
held None = 0
held (Some t) = 1

-- a waiting connection goes to done
abbrev pub let_go : Core → Core
let_go s = record s { waiting = None; done = s.done + held s.waiting }

-- the first stop says how
abbrev pub first_of : Option Bool → Bool → Option Bool
first_of None graceful = Some graceful
first_of (Some first) graceful = Some first

-- the place of w in the order, or the order's length
abbrev pub place_of : List ℕ → ℕ → ℕ
place_of order w = position_or_len (λ x. x == w) order

-- k where it is a place of the order, or else its first place
abbrev pub place_or_first : List ℕ → ℕ → ℕ
place_or_first order k = cond (nat_lt k (length order)) k 0

-- the place behind w, round
abbrev pub behind : List ℕ → ℕ → ℕ
behind order w = place_or_first order (place_of order w + 1)

-- the order without w, whose place the last one takes
abbrev pub without : List ℕ → ℕ → List ℕ
without order w = swap_remove order (place_of order w) w

abbrev pub all_retired : Core → Bool
all_retired s = list_all (λ w. set.contains s.retired w) (range_with_len 0 (length s.out))

abbrev pub let_go_if_none_left : Core → Core
let_go_if_none_left s = cond (all_retired s) (let_go s) s

abbrev pub step : Core → Event → Core
step s (Command Pause) = record s { paused = true }
step s (Command Resume) = record s { paused = false }
step s (Command (Stop graceful)) = let_go (record s { stopping = first_of s.stopping graceful })
step s (Notice w) = record s { free = cond (in_order s.order w) (set.insert s.free w) s.free }
step s (Back w) = record s { out = slice_set s.out w (slice_index s.out w - 1); done = s.done + 1 }
step s (Got t) = record s { waiting = Some t; given = s.given + 1; failures = slice_set s.failures t 0 }
step s (Sent w remains) = record s {
  waiting = None;
  out = slice_set s.out w (slice_index s.out w + 1);
  next = behind s.order w;
  free = cond remains s.free (set.remove s.free w);
}
step s (RingFull w) = record s { next = behind s.order w; free = set.remove s.free w }
step s (Faulted w) = record s {
  order = without s.order w;
  free = set.remove s.free w;
  next = place_or_first (without s.order w) s.next;
}
step s (Replaced w) = record s { order = s.order ++ w ∷ []; free = set.insert s.free w }
step s (Retired w) = let_go_if_none_left (record s { retired = set.insert s.retired w })
step s (ListenerFailed t) = record s { failures = slice_set s.failures t (min (slice_index s.failures t + 1) (2 ^ 64 - 1)) }
step s (ListenerEnded t) = record s { ended = slice_set s.ended t true }

-- what each event keeps
pub record IsKept (s : Core) : Type 0 where
  pub workers : length s.out ≤ 512
  pub listeners : length s.failures ≡ length s.ended
  pub balance : s.given ≡ (s.done + sum s.out) + held s.waiting
  pub bound : s.given ≤ 2 ^ 60
  pub stopped : is_some s.stopping ≡ true → held s.waiting ≡ 0
  pub numbers : (w : ℕ) → in_order s.order w ≡ true → w < length s.out
  pub distinct : IsDistinct nat_eq s.order
  pub free_in_order : (w : ℕ) → set.contains s.free w ≡ true → in_order s.order w ≡ true
  pub next_is_place : 0 < s.next → s.next < length s.order
