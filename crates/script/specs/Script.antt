-- The grammar of a script, and the plan that its lines make.
use Rattle.std.specs.Prelude.{ℕ, ◌+◌, ◌*◌, ◌-◌, ◌^◌, ◌==◌, ◌&&◌, ◌||◌, nat_le, nat_lt, nat_eq, not, Bool, true, false, if◌then◌else◌, List, [], ◌∷◌, ◌++◌, length, drop, sum_by, Option, Some, None, Result, Ok, Err, codes}
use Rattle.std.specs.List.{slice_split, starts_with, list_all, position_or_len, before_first, after_first}
use Rattle.std.specs.Str.{bytes_eq}
use Rattle.std.specs.Option.{option_map, option_and_then, option_map_or, option_or}
use Rattle.service_core.specs.declared.peer.Peer.{Peer}
use Rattle.service_core.specs.declared.peer.Peer.TheVariants.{V4, Local}
use Rattle.http1_grammar.specs.Limits.{Limits}
use Rattle.cors_rules.specs.Policy.{Builder, fresh}
use Rattle.server_run.specs.declared.read_step.ReadStep.{ReadStep}
use Rattle.server_run.specs.declared.read_step.ReadStep.TheVariants.{NotYet, Fail}
use Rattle.server_run.specs.declared.write_step.WriteStep.{WriteStep}
use Rattle.server_run.specs.declared.write_step.WriteStep.TheVariants.{Take as Takes, NotYet as WritesNotYet, Fail as WriteFails}
use Rattle.script.specs.Numbers.{number_behind, number_to}
use Rattle.script.specs.Plain.{is_plain}
use Rattle.script.specs.Planned.{Listening, Planned, and_coming, and_connection, and_reads, and_writes, at_last, at_last_connection, gives, nothing_comes}
use Rattle.script.specs.PolicyText.{and_line, is_permissive, policy_line, some_text}
use Rattle.script.specs.declared.coming.Coming.{Coming}
use Rattle.script.specs.declared.coming.Coming.TheVariants as coming
use Rattle.script.specs.declared.handler.Handler.{Handler}
use Rattle.script.specs.declared.handler.Handler.TheVariants as handlers
use Rattle.script.specs.declared.line.Line.{Line}
use Rattle.script.specs.declared.line.Line.TheVariants.{Skip, Setting, Policy, Place}
use Rattle.script.specs.declared.place.place_line.PlaceLine.{PlaceLine}
use Rattle.script.specs.declared.place.place_line.PlaceLine.TheVariants.{Listener, Conn, Late, Skip as Skips, FailListener, Give, Wait, Take, WriteWait, FailRead, FailWrite}
use Rattle.script.specs.declared.policy.policy_line.PolicyLine.{PolicyLine}
use Rattle.script.specs.declared.policy.script_rule.ScriptRule.{ScriptRule}
use Rattle.script.specs.declared.setting.setting_line.SettingLine.{SettingLine}
use Rattle.script.specs.declared.setting.setting_line.SettingLine.TheVariants.{Workers, Ring, Retry, Limit, Head, Body, Cut, Handle, KeepAliveOff, ExpectRefuse, UpgradeEcho}

-- ---- the text of a `give` line

-- the byte that a letter stands for behind a backslash
abbrev pub escaped : ℕ → Option ℕ
escaped c = if c == 114 then Some 13 else if c == 110 then Some 10 else if c == 116 then Some 9 else if c == 34 then Some 34 else if c == 92 then Some 92 else None

-- the number of a hexadecimal digit
abbrev pub hex_digit : ℕ → Option ℕ
hex_digit c =
    if nat_le 48 c && nat_le c 57 then Some (c - 48)
    else if nat_le 97 c && nat_le c 102 then Some (c - 87)
    else if nat_le 65 c && nat_le c 70 then Some (c - 55)
    else None

abbrev pub hex_byte : ℕ → ℕ → Option ℕ
hex_byte high low = option_and_then (λ h. option_map (λ l. h * 16 + l) (hex_digit low)) (hex_digit high)

-- a byte before these
abbrev pub before : Option ℕ → Option (List ℕ) → Option (List ℕ)
before first rest = option_and_then (λ b. option_map (λ bs. b ∷ bs) rest) first

-- what a text with escapes stands for, or none where a backslash stands before anything else
abbrev pub text_bytes : List ℕ → Option (List ℕ)
text_bytes [] = Some []
text_bytes (b ∷ []) = if b == 92 then None else Some (b ∷ [])
text_bytes (b ∷ c ∷ []) = if b == 92 then before (escaped c) (Some []) else before (Some b) (text_bytes (c ∷ []))
text_bytes (b ∷ c ∷ d ∷ []) = if b == 92 then before (escaped c) (text_bytes (d ∷ [])) else before (Some b) (text_bytes (c ∷ d ∷ []))
text_bytes (b ∷ c ∷ d ∷ e ∷ rest) =
    if b == 92
    then if c == 120 then before (hex_byte d e) (text_bytes rest) else before (escaped c) (text_bytes (d ∷ e ∷ rest))
    else before (Some b) (text_bytes (c ∷ d ∷ e ∷ rest))

-- ---- the peer of a `conn` line

-- what stands before the first b of a text and what stands behind it, where there is one
abbrev pub cut_at : ℕ → List ℕ → Option (List ℕ × List ℕ)
cut_at b text =
    if nat_lt (position_or_len (λ c. c == b) text) (length text) then Some (before_first (λ c. c == b) text, after_first (λ c. c == b) text) else None

-- a number up to 255 before the first point of a text, and what stands behind the point
abbrev pub octet_first : List ℕ → Option (ℕ × List ℕ)
octet_first text = option_and_then (λ (first, more). option_map (λ n. (n, more)) (number_to 255 first)) (cut_at 46 text)

-- the address of four numbers with points between them
abbrev pub host_of : List ℕ → Option ℕ
host_of text =
    option_and_then (λ (a, bcd).
    option_and_then (λ (b, cd).
    option_and_then (λ (c, last).
    option_map (λ d. a * 2 ^ 24 + b * 2 ^ 16 + c * 2 ^ 8 + d)
    (number_to 255 last)) (octet_first cd)) (octet_first bcd)) (octet_first text)

-- an address and a port with a colon between them
abbrev pub v4_of : List ℕ → Option Peer
v4_of text =
    option_and_then (λ (host, port).
    option_and_then (λ h.
    option_map (λ p. V4 h p)
    (number_to 65535 port)) (host_of host)) (cut_at 58 text)

abbrev pub peer_of : List ℕ → Option Peer
peer_of text = if bytes_eq text (codes "local") then Some Local else v4_of text

-- ---- lines

-- how many workers there are, how many places a ring has, how often a listener may fail in a row, and how many connections a worker
-- has at once at the most
abbrev pub workers_line : List ℕ → Option SettingLine
workers_line line = option_map Workers (number_behind (codes "workers ") 1 512 line)

abbrev pub ring_line : List ℕ → Option SettingLine
ring_line line = option_map Ring (number_behind (codes "ring ") 1 4096 line)

abbrev pub retry_line : List ℕ → Option SettingLine
retry_line line = option_map Retry (number_behind (codes "retry ") 1 1000 line)

abbrev pub limit_line : List ℕ → Option SettingLine
limit_line line = option_map Limit (number_behind (codes "limit ") 1 1000000 line)

abbrev pub server_line : List ℕ → Option SettingLine
server_line line = option_or (workers_line line) (option_or (ring_line line) (option_or (retry_line line) (limit_line line)))

-- how many bytes of a head are read, and of a body, and how many bytes a piece of what is given has at the most
abbrev pub head_line : List ℕ → Option SettingLine
head_line line = option_map Head (number_behind (codes "head ") 1 65535 line)

abbrev pub body_line : List ℕ → Option SettingLine
body_line line = option_map Body (number_behind (codes "body ") 1 16777216 line)

abbrev pub cut_line : List ℕ → Option SettingLine
cut_line line = option_map Cut (number_behind (codes "cut ") 1 65536 line)

-- a handler that answers with a status
abbrev pub status_line : List ℕ → Option Handler
status_line line = option_map handlers.Status (number_behind (codes "handler status ") 200 999 line)

-- the handler that a line sets
abbrev pub handler_line : List ℕ → Option Handler
handler_line line =
    if bytes_eq line (codes "handler hello") then Some handlers.Hello
    else if bytes_eq line (codes "handler echo") then Some handlers.Echo
    else if bytes_eq line (codes "handler peer") then Some handlers.Peer
    else if bytes_eq line (codes "handler fail") then Some handlers.Fail
    else status_line line

-- a setting that has no value: connections close, expectations are refused, upgrades are echoed
abbrev pub bare_setting : List ℕ → Option SettingLine
bare_setting line =
    if bytes_eq line (codes "keep-alive off") then Some KeepAliveOff
    else if bytes_eq line (codes "expect refuse") then Some ExpectRefuse
    else if bytes_eq line (codes "upgrade echo") then Some UpgradeEcho
    else None

abbrev pub setting_line : List ℕ → Option SettingLine
setting_line line =
    option_or (server_line line) (option_or (head_line line) (option_or (body_line line) (option_or (cut_line line)
    (option_or (bare_setting line) (option_map Handle (handler_line line))))))

-- a listener; a time at which nothing has come to it, a connection that was lost, a failure of its own; a read that is pending once,
-- and such a write; a read that fails, and such a write
abbrev pub bare_line : List ℕ → Option PlaceLine
bare_line line =
    if bytes_eq line (codes "listener") then Some Listener
    else if bytes_eq line (codes "late") then Some Late
    else if bytes_eq line (codes "skip") then Some Skips
    else if bytes_eq line (codes "fail-listener") then Some FailListener
    else if bytes_eq line (codes "wait") then Some Wait
    else if bytes_eq line (codes "write-wait") then Some WriteWait
    else if bytes_eq line (codes "fail-read") then Some FailRead
    else if bytes_eq line (codes "fail-write") then Some FailWrite
    else None

-- a connection
abbrev pub conn_line : List ℕ → Option PlaceLine
conn_line line = if starts_with nat_eq line (codes "conn ") then option_map Conn (peer_of (drop 5 line)) else None

-- how many bytes a write takes at the most
abbrev pub take_line : List ℕ → Option PlaceLine
take_line line = option_map Take (number_behind (codes "take ") 1 65536 line)

-- the bytes that a text stands for, which isn't empty
abbrev pub some_bytes : List ℕ → Option PlaceLine
some_bytes text = option_map Give (option_and_then text_bytes (some_text text))

abbrev pub give_line : List ℕ → Option PlaceLine
give_line line = if starts_with nat_eq line (codes "give ") then some_bytes (drop 5 line) else None

abbrev pub place_line : List ℕ → Option PlaceLine
place_line line = option_or (bare_line line) (option_or (conn_line line) (option_or (take_line line) (give_line line)))

-- what a line says that is neither empty nor a comment
abbrev pub told_by : List ℕ → Option Line
told_by line =
    option_or (option_map Setting (setting_line line)) (option_or (option_map Place (place_line line)) (option_map Policy (policy_line line)))

-- what a line says, or none where it isn't of the grammar
abbrev pub line_of : List ℕ → Option Line
line_of line =
    if not (list_all is_plain line) then None
    else if (length line == 0) || starts_with nat_eq line (codes "#") then Some Skip
    else told_by line

-- ---- the plan

-- the builder of the policy and whether a line spoke of it, the handler, the limits of its connections in bytes and of a
-- piece of what they give, whether they stay open behind a response, whether expectations are refused and upgrades echoed,
-- what the server is set to, and its listeners
pub record Plan : Type 0 where
  pub cors : Builder ScriptRule
  pub has_policy : Bool
  pub handler : Handler
  pub limits : Limits
  pub cut : ℕ
  pub keeps_alive : Bool
  pub refuses_expectations : Bool
  pub echoes_upgrades : Bool
  pub workers : ℕ
  pub ring : ℕ
  pub retry_limit : ℕ
  pub limit : ℕ
  pub listeners : List Listening

abbrev pub default_limits : Limits
default_limits = record { head = 32768; body = 1048576 }

abbrev pub nothing_yet : Plan
nothing_yet = record {
  cors = fresh;
  has_policy = false;
  handler = handlers.Hello;
  limits = default_limits;
  cut = 65536;
  keeps_alive = true;
  refuses_expectations = false;
  echoes_upgrades = false;
  workers = 2;
  ring = 128;
  retry_limit = 8;
  limit = 25600;
  listeners = [];
}

-- there is a listener
abbrev pub is_listening : Plan → Bool
is_listening plan = not (length plan.listeners == 0)

-- how many connections there are
abbrev pub connection_count : Plan → ℕ
connection_count plan = sum_by (λ (listener : Listening). length listener.connections) plan.listeners

-- what a line sets; a later line takes the place of an earlier one
abbrev pub and_setting : Plan → SettingLine → Plan
and_setting plan (Workers count) = record plan { workers = count }
and_setting plan (Ring places) = record plan { ring = places }
and_setting plan (Retry most) = record plan { retry_limit = most }
and_setting plan (Limit most) = record plan { limit = most }
and_setting plan (Head size) = record plan { limits = record { head = size; body = plan.limits.body } }
and_setting plan (Body size) = record plan { limits = record { head = plan.limits.head; body = size } }
and_setting plan (Cut size) = record plan { cut = size }
and_setting plan (Handle handler) = record plan { handler = handler }
and_setting plan KeepAliveOff = record plan { keeps_alive = false }
and_setting plan ExpectRefuse = record plan { refuses_expectations = true }
and_setting plan UpgradeEcho = record plan { echoes_upgrades = true }

-- what is set before the first listener
abbrev pub with_setting : Plan → SettingLine → Option Plan
with_setting plan line = if is_listening plan then None else Some (and_setting plan line)

-- one more policy line, which stands before the first listener; one that allows everything stands before every other
abbrev pub with_policy : Plan → PolicyLine → Option Plan
with_policy plan line =
    if is_listening plan || (is_permissive line && plan.has_policy) then None
    else Some (record plan { cors = and_line plan.cors line; has_policy = true })

-- one more listener, of 64 at the most
abbrev pub with_listener : Plan → Option Plan
with_listener plan = if nat_lt (length plan.listeners) 64 then Some (record plan { listeners = plan.listeners ++ nothing_comes ∷ [] }) else None

-- the last listener is changed, and the last connection of that
abbrev pub at_listener : Plan → (Listening → Option Listening) → Option Plan
at_listener plan change = option_map (λ listeners. record plan { listeners = listeners }) (at_last change plan.listeners)

abbrev pub at_connection : Plan → (Planned → Planned) → Option Plan
at_connection plan change = at_listener plan (at_last_connection change)

-- one more connection of the last listener, of 100,000 in all at the most
abbrev pub with_connection : Plan → Peer → Option Plan
with_connection plan peer = if nat_lt (connection_count plan) 100000 then at_listener plan (λ listener. Some (and_connection listener peer)) else None

-- another answer of the last listener
abbrev pub with_coming : Plan → Coming → Option Plan
with_coming plan answer = at_listener plan (λ listener. Some (and_coming listener answer))

-- bytes that the last connection gives, piece by piece
abbrev pub with_bytes : Plan → List ℕ → Option Plan
with_bytes plan bytes = at_connection plan (λ connection. and_reads connection (gives plan.cut bytes))

-- a step of its reads
abbrev pub with_read : Plan → ReadStep → Option Plan
with_read plan step = at_connection plan (λ connection. and_reads connection (step ∷ []))

-- a step of its writes
abbrev pub with_write : Plan → WriteStep → Option Plan
with_write plan step = at_connection plan (λ connection. and_writes connection (step ∷ []))

abbrev pub with_place : Plan → PlaceLine → Option Plan
with_place plan Listener = with_listener plan
with_place plan (Conn peer) = with_connection plan peer
with_place plan Late = with_coming plan coming.Late
with_place plan Skips = with_coming plan coming.Skip
with_place plan FailListener = with_coming plan coming.Failure
with_place plan (Give bytes) = with_bytes plan bytes
with_place plan Wait = with_read plan NotYet
with_place plan (Take most) = with_write plan (Takes most)
with_place plan WriteWait = with_write plan WritesNotYet
with_place plan FailRead = with_read plan Fail
with_place plan FailWrite = with_write plan WriteFails

-- what a plan becomes by a line, or none where the line can't stand there
abbrev pub with_line : Plan → Line → Option Plan
with_line plan Skip = Some plan
with_line plan (Setting line) = with_setting plan line
with_line plan (Policy line) = with_policy plan line
with_line plan (Place line) = with_place plan line

abbrev pub after_line : Plan → List ℕ → Option Plan
after_line plan line = option_and_then (λ said. with_line plan said) (line_of line)

-- the plan of these lines, or the number of the first bad one, where the first has this number
abbrev pub plan_from : Plan → ℕ → List (List ℕ) → Result Plan ℕ
plan_from plan number [] = Ok plan
plan_from plan number (line ∷ lines) = option_map_or (λ next. plan_from next (number + 1) lines) (after_line plan line) (Err number)

-- the plan of a script, or the number of its first bad line
abbrev pub plan_of : List ℕ → Result Plan ℕ
plan_of bytes = plan_from nothing_yet 1 (slice_split (λ b. b == 10) bytes)
