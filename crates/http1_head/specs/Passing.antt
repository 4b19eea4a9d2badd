-- How far a search for the end of a head has come.
use Rattle.std.specs.Prelude.{◌≡◌, ◌≤◌, ℕ, ◌+◌, ◌-◌, List, ◌++◌, length, take, drop, option_map, ⊤}
use Rattle.http1_grammar.specs.Limits.{Limits}
use Rattle.http1_grammar.specs.Lines.{head_len}
use Rattle.http1_head.specs.declared.next.NextHead.{NextHead}
use Rattle.http1_head.specs.declared.next.NextHead.TheVariants.{Nothing, Refused, Found}

-- the head of the bytes ends where that of the bytes from the place on ends
abbrev pub EndsFrom : List ℕ → ℕ → Type 0
EndsFrom bytes place = head_len bytes ≡ option_map (λ len. len + place) (head_len (drop place bytes))

-- no head ends in these bytes, whatever follows; the last two may belong to its end
abbrev pub HasNoEnd : List ℕ → Type 0
HasNoEnd front = (more : List ℕ) → EndsFrom (front ++ more) (length front - 2)

-- so many bytes were looked at, and no head ends in them
pub record HasSeen (limits : Limits) (bytes : List ℕ) (seen : ℕ) : Type 0 where
  pub within : seen ≤ length bytes
  pub limited : seen ≤ limits.head
  pub no_end : HasNoEnd (take seen bytes)

-- where no head was found all bytes were looked at
abbrev pub LooksAtAll : Limits → List ℕ → NextHead → Type 0
LooksAtAll limits bytes Nothing = HasSeen limits bytes (length bytes)
LooksAtAll limits bytes (Refused status) = ⊤
LooksAtAll limits bytes (Found head body used) = ⊤
