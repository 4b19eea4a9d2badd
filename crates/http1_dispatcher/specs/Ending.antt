-- How a connection may end.
use Rattle.std.specs.Prelude.{◌≡◌, ◌≤◌, ◌⊎◌, ℕ, ◌-◌, List, ◌++◌, take, drop, Option, IfSome, ⊤}
use Rattle.http1_grammar.specs.Head.{Head}
use Rattle.http1_grammar.specs.Answers.{Answers, bare, done, up}
use Rattle.http1_plain.specs.Views.{request_of, view}
use Rattle.service_core.specs.Counts.{Rose}
use Rattle.service_core.specs.declared.ended.How.{How}
use Rattle.service_core.specs.declared.ended.How.TheVariants.{Served, ReadFault, WriteFault, Upgraded, Memory}
use Rattle.service_core.specs.declared.link.Link.{Ghosts as LinkOf}
use Rattle.service_core.specs.declared.peer.Peer.{Peer}
use Rattle.http_flow.specs.Upgrading.{Asked, Grew}
use Rattle.http_flow.specs.declared.framed.Handed.{Handed}
use Rattle.http_flow.specs.declared.framed.HandedEnd.TheVariants.{Done, Fault}
use Rattle.http1_dispatcher.specs.Requests.{AreFunctions, Functions, Relations, served}
use Rattle.http1_dispatcher.specs.declared.rules.Rules.{Rules}

-- a prefix of these bytes was written between the two
pub record GrewByPrefix (before after : Option (List ℕ)) (whole : List ℕ) : Type 0 where
  pub front : List ℕ
  pub back : List ℕ
  pub grew : Grew before after front
  pub is : whole ≡ front ++ back

module _ {L : Type 0} (g : LinkOf L) (served : List ℕ → Answers) (before after : L) where
  -- P holds of the bytes that were held and not taken before
  abbrev pub OnUntaken : (List ℕ → Type 0) → Type 0
  OnUntaken P = IfSome (g.identity before).held (λ all. P (drop (g.taken before) all))

  -- P holds of the bytes that were taken between the two
  abbrev pub OnTaken : (List ℕ → Type 0) → Type 0
  OnTaken P = OnUntaken (λ bytes. P (take (g.taken after - g.taken before) bytes))

  -- all answers to these bytes were written between the two
  abbrev pub WroteAll : List ℕ → Type 0
  WroteAll bytes = Grew (g.written before) (g.written after) (served bytes).0

  -- a prefix of the answers to these bytes was written between the two
  abbrev pub WroteSome : List ℕ → Type 0
  WroteSome bytes = GrewByPrefix (g.written before) (g.written after) (served bytes).0

  -- all answers to these bytes were written and then more, and they end in an upgrade
  pub record WroteBeyond (bytes : List ℕ) : Type 0 where
    pub head : Head
    pub rest : List ℕ
    pub is_up : (served bytes).1 ≡ up head rest
    pub more : List ℕ
    pub grew : Grew (g.written before) (g.written after) ((served bytes).0 ++ more)

  pub record IsServed : Type 0 where
    pub wrote : OnUntaken WroteAll
    pub is_done : OnUntaken (λ bytes. (served bytes).1 ≡ done)

  -- what was written, by how the service ended
  abbrev pub WroteBy : How → Type 0
  WroteBy Served = IsServed
  WroteBy ReadFault = OnTaken WroteAll
  WroteBy WriteFault = OnUntaken WroteSome
  WroteBy Upgraded = OnUntaken WroteBeyond
  WroteBy Memory = OnUntaken (λ bytes. WroteSome bytes ⊎ WroteBeyond bytes)

-- The answers to all that the link held end in an upgrade with this request. All bytes of them were written before, and all behind its
-- head are unread or not taken.
pub record EndsIn {L : Type 0} (g : LinkOf L) (served : List ℕ → Answers) (before : L) (asked : Asked L) (all : List ℕ) : Type 0 where
  pub wrote : Grew (g.written before) (g.written asked.1.link) (served (drop (g.taken before) all)).0
  pub is_up : (served (drop (g.taken before) all)).1 ≡ up (view asked.0.head) (asked.1.unread ++ drop (g.taken asked.1.link) all)

module _ {L : Type 0} (g : LinkOf L) (before after : L) where
  -- the counts of faults, by how the service ended
  abbrev pub FaultsBy : How → Type 0
  FaultsBy Served = (g.read_faults after ≤ g.read_faults before) × (g.write_faults after ≤ g.write_faults before)
  FaultsBy ReadFault = Rose (g.read_faults before) (g.read_faults after)
  FaultsBy WriteFault = Rose (g.write_faults before) (g.write_faults after)
  FaultsBy Upgraded = ⊤
  FaultsBy Memory = ⊤

module _ {L E XE : Type 0} (g : LinkOf L) (r : Relations E XE) (rules : Rules) (peer : Peer) (before : L) where
  -- The upgrade service was asked this: a request with no body, and the same link, to which the answers before were written.
  pub record HandsOver (asked : Asked L) : Type 0 where
    pub is_bare : request_of asked.0 ≡ bare (view asked.0.head) peer
    pub same : g.identity asked.1.link ≡ g.identity before
    pub given : (f : Functions) → AreFunctions r f → IfSome (g.identity before).held (EndsIn g (served rules peer f) before asked)

  -- The upgrade service was asked, and has handed the link back.
  pub record TakenOver (hands : Asked L → Handed L → Type 0) (after : L) : Type 0 where
    pub asked : Asked L
    pub handed : Handed L
    pub given : HandsOver asked
    pub hands_back : hands asked handed
    pub link_is : handed.link ≡ after
    pub end_is : (handed.end ≡ Done) ⊎ (handed.end ≡ Fault)

  -- The service of a connection, from one state of its link to another. The link stays the same, and its counts of faults go by how it
  -- ended, whatever its services answer. What was written is that of each pair of functions that they are.
  pub record Ends (after : L) (how : How) : Type 0 where
    pub same : g.identity after ≡ g.identity before
    pub faults : FaultsBy g before after how
    pub wrote : (f : Functions) → AreFunctions r f → WroteBy g (served rules peer f) before after how

  -- the same, with what an upgrade service that hands links back was asked, which is one for all functions
  pub record EndsWith (hands : Asked L → Handed L → Type 0) (after : L) (how : How) : Type 0 where
    pub ends : Ends after how
    pub upgraded : how ≡ Upgraded → TakenOver hands after
