-- One request more, and one connection more.
use Rattle.std.proofs.Common.{◌≡◌, ℕ, zero, suc, ◌+◌, List, [], ◌∷◌, ◌++◌, length, refl, sym, ◌∙◌, ap, arith, add-one, append_assoc, append-nil}
use Rattle.script.specs.Planned.{Planned}
use Rattle.generator.specs.Generator.{connection, connections, on_connection, request, request_count, request_number, requests}

-- a request goes last
last_request : (count state : ℕ) → (requests (suc count) state).0 ≡ (requests count state).0 ++ (request (requests count state).1).0
last_request zero state = append-nil (request state).0
last_request (suc count) state =
    let next : ℕ = (request state).1 in
    ap (λ (more : List ℕ). (request state).0 ++ more) (last_request count next)
    ∙ sym (append_assoc (request state).0 (requests count next).0 (request (requests count next).1).0)

last_state : (count state : ℕ) → (requests (suc count) state).1 ≡ (request (requests count state).1).1
last_state zero state = refl
last_state (suc count) state = last_state count (request state).1

pub requests_more : (count state : ℕ) → (requests (count + 1) state).0 ≡ (requests count state).0 ++ (request (requests count state).1).0
requests_more count state = rw add-one (last_request count state)

pub state_more : (count state : ℕ) → (requests (count + 1) state).1 ≡ (request (requests count state).1).1
state_more count state = rw add-one (last_state count state)

pub bytes_more : (count state now : ℕ) (before had more : List ℕ) → had ≡ before ++ (requests count state).0 → now ≡ (requests count state).1
    → more ≡ had ++ (request now).0 → more ≡ before ++ (requests (count + 1) state).0
bytes_more count state now before had more had_is now_is more_is =
    more_is ∙ ap (λ (bytes : List ℕ). bytes ++ (request now).0) had_is
    ∙ ap (λ (s : ℕ). (before ++ (requests count state).0) ++ (request s).0) now_is
    ∙ append_assoc before (requests count state).0 (request (requests count state).1).0
    ∙ ap (λ (bytes : List ℕ). before ++ bytes) (sym (requests_more count state))

-- the state behind so many connections
abbrev pub state_behind : ℕ → ℕ → ℕ
state_behind zero state = state
state_behind (suc count) state = state_behind count (on_connection state).1

last_behind : (count state : ℕ) → state_behind (suc count) state ≡ (on_connection (state_behind count state)).1
last_behind zero state = refl
last_behind (suc count) state = last_behind count (on_connection state).1

pub state_behind_more : (count state : ℕ) → state_behind (count + 1) state ≡ (on_connection (state_behind count state)).1
state_behind_more count state = rw add-one (last_behind count state)

-- a connection comes last
last_connection : (count state : ℕ) → connections (suc count) state ≡ connections count state ++ connection (state_behind count state) ∷ []
last_connection zero state = refl
last_connection (suc count) state = ap (λ (more : List Planned). connection state ∷ more) (last_connection count (on_connection state).1)

pub connections_more : (count state : ℕ) → connections (count + 1) state ≡ connections count state ++ connection (state_behind count state) ∷ []
connections_more count state = rw add-one (last_connection count state)

-- its requests are counted last
last_count : (count state : ℕ) → request_count (suc count) state ≡ request_count count state + request_number (state_behind count state)
last_count zero state = omega arith
last_count (suc count) state = let more = last_count count (on_connection state).1 in omega (arith, more)

pub request_count_more : (count state : ℕ) → request_count (count + 1) state ≡ request_count count state + request_number (state_behind count state)
request_count_more count state = rw add-one (last_count count state)

pub count_more : (count state now had more : ℕ) → now ≡ state_behind count state → had ≡ request_count count state → more ≡ request_number now
    → had + more ≡ request_count (count + 1) state
count_more count state now had more now_is had_is more_is =
    ap (λ (n : ℕ). had + n) more_is ∙ ap (λ (s : ℕ). had + request_number s) now_is
    ∙ ap (λ (n : ℕ). n + request_number (state_behind count state)) had_is ∙ sym (request_count_more count state)

-- there are as many
pub as_many : (count state : ℕ) → length (connections count state) ≡ count
as_many zero state = refl
as_many (suc count) state = ap suc (as_many count (on_connection state).1)
