use Rattle.std.proofs.Common.{◌≡◌, true, false, nat_eq, ℕ, List, drop, codes, None, sym, ap, ◌∙◌}
use Rattle.std.specs.List.{starts_with}
use Rattle.std.specs.Option.{option_map}
use Rattle.std.proofs.lemmas.List.{take_rest}
use Rattle.script.specs.Script.{conn_line, peer_of}
use Rattle.script.specs.declared.place.place_line.PlaceLine.TheVariants.{Conn}
use Rattle.script.proofs.place.place_text.conn_line.Goals as goal

-- a line that begins otherwise
none_is : (line : List ℕ) → starts_with nat_eq line (codes "conn ") ≡ false → None ≡ conn_line line
none_is line other = rw other

-- the peer behind the word
conn_is : (line : List ℕ) → starts_with nat_eq line (codes "conn ") ≡ true → option_map Conn (peer_of (drop 5 line)) ≡ conn_line line
conn_is line begins = rw begins

pub returns-then-not-starts_with : goal.returns-then-not-starts_with
returns-then-not-starts_with c =
    none_is c.args.line.now (rw c.as_slice.ensures at (sym c.starts_with.ensures.value ∙ c.if-not-starts_with.true))

pub returns-in_err-peer : goal.returns-in_err-peer
returns-in_err-peer c =
    c.from_residual.ensures ∙ ap (option_map Conn) (c.in_err-peer.ensures ∙ ap peer_of (take_rest c.args.line.now 5))
    ∙ conn_is c.args.line.now (rw c.as_slice.ensures at (sym c.starts_with.ensures.value ∙ c.if-not-starts_with.false))

pub returns : goal.returns
returns c =
    ap (option_map Conn) (c.in_ok-peer.ensures ∙ ap peer_of (take_rest c.args.line.now 5))
    ∙ conn_is c.args.line.now (rw c.as_slice.ensures at (sym c.starts_with.ensures.value ∙ c.if-not-starts_with.false))
