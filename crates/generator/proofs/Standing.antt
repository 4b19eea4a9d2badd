-- The lines of one more connection.
use Rattle.std.proofs.Common.{◌≡◌, ◌<◌, ℕ, ◌+◌, nat_lt, true, List, [], ◌∷◌, ◌++◌, length, replicate, Option, Some, IsSome, is_some, sym, ◌∙◌, ap, arith}
use Rattle.std.specs.Option.{option_and_then}
use Rattle.std.proofs.lemmas.Bool.Decides.{nat_tests}
use Rattle.std.proofs.lemmas.List.{replicate_more}
use Rattle.std.proofs.lemmas.List.Sums.{sum_by-cons}
use Rattle.service_core.specs.declared.peer.Peer.{Peer}
use Rattle.service_core.specs.declared.peer.Peer.TheVariants.{V4}
use Rattle.script.specs.Planned.{Listening, Planned, and_reads, gives, no_steps}
use Rattle.script.specs.Script.{Plan, connection_count, with_bytes, with_connection}
use Rattle.script.specs.declared.coming.Coming.{Coming}
use Rattle.script.specs.declared.coming.Coming.TheVariants.{Connection}
use Rattle.generator.specs.Generator.{connections, generated, on_connection}
use Rattle.generator.specs.Serving.{with_requests}
use Rattle.generator.proofs.LastOne.{at_last_is}
use Rattle.generator.proofs.More.{as_many, connections_more, state_behind}

-- what is served, with these connections
abbrev serving : List Coming → List Planned → Plan
serving comings connections = record (generated 0 0) { listeners = record { comings = comings; connections = connections } ∷ [] }

-- a connection comes
one_comes : (comings : List Coming) (planned : List Planned) (peer : Peer) → length planned < 100000
    → with_connection (serving comings planned) peer ≡ Some (serving (comings ++ Connection ∷ []) (planned ++ no_steps peer ∷ []))
one_comes comings planned peer few =
    let counted : connection_count (serving comings planned) ≡ length planned =
    sum_by-cons (λ (l : Listening). length l.connections) (record { comings = comings; connections = planned }) [] ∙ omega arith in
    let room : nat_lt (connection_count (serving comings planned)) 100000 ≡ true = grind (arith, nat_tests, counted, few) in
    rw room

-- the last connection gives bytes
last_gives : (comings : List Coming) (planned : List Planned) (last : Planned) (bytes : List ℕ)
    → with_bytes (serving comings (planned ++ last ∷ [])) bytes ≡ Some (serving comings (planned ++ and_reads last (gives 7 bytes) ∷ []))
last_gives comings planned last bytes = rw at_last_is

-- both
one_served : (count seed : ℕ) (bytes : List ℕ) → count < 100000 → bytes ≡ (on_connection (state_behind count seed)).0
    → with_requests (generated count seed) bytes ≡ Some (generated (count + 1) seed)
one_served count seed bytes few are =
    let as_before : length (connections count seed) < 100000 = omega (arith, as_many count seed, few) in
    let peer : Peer = V4 167772161 1000 in
    let comes = one_comes (replicate count Connection) (connections count seed) peer as_before in
    let gives_them = last_gives (replicate count Connection ++ Connection ∷ []) (connections count seed) (no_steps peer) bytes in
    ap (λ (o : Option Plan). option_and_then (λ (more : Plan). with_bytes more bytes) o) comes
    ∙ gives_them
    ∙ ap (λ (comings : List Coming). Some (serving comings (connections count seed ++ and_reads (no_steps peer) (gives 7 bytes) ∷ []))) (replicate_more count Connection)
    ∙ ap (λ (given : List ℕ). Some (serving (replicate (count + 1) Connection) (connections count seed ++ and_reads (no_steps peer) (gives 7 given) ∷ []))) are
    ∙ ap (λ (planned : List Planned). Some (serving (replicate (count + 1) Connection) planned)) (sym (connections_more count seed))

-- so the lines can stand, and this is what they make
module _ (count seed now : ℕ) (bytes : List ℕ) (plan : Plan) (few : count < 100000) (is : plan ≡ generated count seed)
    (now_is : now ≡ state_behind count seed) (bytes_are : bytes ≡ (on_connection now).0) where
  taken : with_requests plan bytes ≡ Some (generated (count + 1) seed)
  taken =
      ap (λ (p : Plan). with_requests p bytes) is
      ∙ one_served count seed bytes few (bytes_are ∙ ap (λ (state : ℕ). (on_connection state).0) now_is)

  pub stands : IsSome (with_requests plan bytes)
  stands = ap (λ (o : Option Plan). is_some o) taken

  pub is_served : (new : Plan) → Some new ≡ with_requests plan bytes → new ≡ generated (count + 1) seed
  is_served new is = let same : Some new ≡ Some (generated (count + 1) seed) = is ∙ taken in cc
