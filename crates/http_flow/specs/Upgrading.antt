-- What is asked of an upgrade service.
use Rattle.std.specs.Prelude.{◌≡◌, ◌⊎◌, List, ℕ, ◌++◌, Option, option_map, Result, Ok, Err, ⊤}
use Rattle.http1_plain.specs.declared.request.Request.{Request}
use Rattle.service_core.specs.Counts.{Rose}
use Rattle.service_core.specs.declared.link.Link.{Ghosts as LinkOf}
use Rattle.http_flow.specs.declared.framed.Framed.{Framed}
use Rattle.http_flow.specs.declared.framed.Handed.{Handed}
use Rattle.http_flow.specs.declared.framed.HandedEnd.{HandedEnd}
use Rattle.http_flow.specs.declared.framed.HandedEnd.TheVariants.{Done, Fault, Memory}

-- these bytes were written between the two, where the link tells it
abbrev pub Grew : Option (List ℕ) → Option (List ℕ) → List ℕ → Type 0
Grew before after bytes = after ≡ option_map (λ w. w ++ bytes) before

-- what an upgrade service is asked: a request with no body, and the link with the bytes behind its head
abbrev pub Asked : Type 0 → Type 0
Asked L = Request × Framed L

module _ {L : Type 0} (g : LinkOf L) (given link : L) where
  -- it is the same link, to which more may have been written
  pub record IsLater : Type 0 where
    pub put : List ℕ
    pub same : g.identity link ≡ g.identity given
    pub grew : Grew (g.written given) (g.written link) put

  -- it says Fault only where the link failed
  abbrev pub EndFits : HandedEnd → Type 0
  EndFits Done = ⊤
  EndFits Fault = Rose (g.read_faults given) (g.read_faults link) ⊎ Rose (g.write_faults given) (g.write_faults link)
  EndFits Memory = ⊤

-- what a call of an upgrade service may give
abbrev pub HandsBack : {L E : Type 0} → LinkOf L → L → Result (Handed L) E → Type 0
HandsBack g given (Ok handed) = IsLater g given handed.link × EndFits g given handed.link handed.end
HandsBack g given (Err e) = ⊥

-- The conditions of an upgrade service, by its relations: its call never errs, and hands the link back, or leaves it, as a later one.
pub record IsUpgrade {L E F : Type 0} (g : LinkOf L) (may : Asked L → Result (Handed L) E → Type 0)
    (may_begin : Asked L → F → Type 0) (may_stand : F → L → Type 0) : Type 0 where
  pub hands : (asked : Asked L) (r : Result (Handed L) E) → may asked r → HandsBack g asked.1.link r
  pub leaves : (asked : Asked L) (f : F) (link : L) → may_begin asked f → may_stand f link → IsLater g asked.1.link link
