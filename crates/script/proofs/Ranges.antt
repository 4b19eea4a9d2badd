-- The numbers of a script's lines are in their ranges.
use Rattle.std.proofs.Common.{◌≡◌, ℕ, nat_lt, nat_le, nat_eq, Bool, true, false, cond, ◌&&◌, List, drop, length, Option, Some, None, Result, Ok, Err, codes, arith, refl, sym, subst}
use Rattle.std.specs.Prelude.{⊤, IfOk, IfSome}
use Rattle.std.proofs.lemmas.Bool.Decides.{nat_tests}
use Rattle.std.specs.List.{starts_with}
use Rattle.std.specs.Str.{bytes_eq}
use Rattle.std.specs.Option.{option_and_then, option_map, option_or}
use Rattle.script.specs.Numbers.{IsWithin, decimal_from, is_decimal, number_behind, number_in}
use Rattle.service_core.specs.declared.peer.Peer.{Peer}
use Rattle.script.specs.PolicyText.{policy_line, some_text}
use Rattle.script.specs.Ranges.{IsInRange, IsPlaceInRange, IsSettingInRange}
use Rattle.script.specs.Script.{bare_line, bare_setting, body_line, conn_line, cut_line, handler_line, head_line, peer_of, place_line, retry_line, ring_line, server_line, setting_line, some_bytes, take_line, text_bytes, told_by, workers_line}
use Rattle.script.specs.declared.line.Line.{Line}
use Rattle.script.specs.declared.line.Line.TheVariants.{Setting, Policy, Place}
use Rattle.script.specs.declared.place.place_line.PlaceLine.TheVariants.{Listener, Conn, Late, Skip, FailListener, Give, Wait, Take, WriteWait, FailRead, FailWrite}
use Rattle.script.specs.declared.setting.setting_line.SettingLine.TheVariants.{Workers, Ring, Retry, Limit, Head, Body, Cut, Handle, KeepAliveOff, ExpectRefuse, UpgradeEcho}

-- what holds of the value of each option holds of the first that has one
either : {A : Type 0} (P : A → Type 0) (a b : Option A) → IfSome a P → IfSome b P → IfSome (option_or a b) P
either P None b first second = second
either P (Some x) b first second = first

mapped : {A B : Type 0} (P : B → Type 0) (f : A → B) (a : Option A) → IfSome a (λ x. P (f x)) → IfSome (option_map f a) P
mapped P f None holds = tt
mapped P f (Some x) holds = holds

each : {A : Type 0} (P : A → Type 0) → ((x : A) → P x) → (a : Option A) → IfSome a P
each P always None = tt
each P always (Some x) = always x

tested : {A : Type 0} (P : A → Type 0) (t : Bool) (a b : Option A) → IfSome a P → IfSome b P → IfSome (cond t a b) P
tested P true a b first second = first
tested P false a b first second = second

-- a number behind a front is within its bounds
within : (least most n : ℕ) (t u : Bool) → nat_le n most ≡ t → nat_lt n least ≡ u
    → (d : Bool) → IfSome (option_and_then (λ m. cond (nat_lt m least) None (Some m)) (cond (d && t) (Some n) None)) (IsWithin least most)
within least most n true true below above false = tt
within least most n true true below above true = rw above tt
within least most n true false below above false = tt
within least most n true false below above true = rw above (grind (arith, nat_tests), grind (arith, nat_tests))
within least most n false u below above false = tt
within least most n false u below above true = tt

behind_is : (front : List ℕ) (least most : ℕ) (line : List ℕ) → IfSome (number_behind front least most line) (IsWithin least most)
behind_is front least most line =
    let text : List ℕ = drop (length front) line in
    tested (IsWithin least most) (starts_with nat_eq line front) (number_in least most text) None
    (within least most (decimal_from 0 text) _ _ refl refl (is_decimal text)) tt

bare_settings_are : (line : List ℕ) → IfSome (bare_setting line) IsSettingInRange
bare_settings_are line =
    tested IsSettingInRange (bytes_eq line (codes "keep-alive off")) (Some KeepAliveOff) _ tt
    (tested IsSettingInRange (bytes_eq line (codes "expect refuse")) (Some ExpectRefuse) _ tt
    (tested IsSettingInRange (bytes_eq line (codes "upgrade echo")) (Some UpgradeEcho) None tt tt))

servers_are : (line : List ℕ) → IfSome (server_line line) IsSettingInRange
servers_are line =
    either IsSettingInRange (workers_line line) _ (mapped IsSettingInRange Workers _ (behind_is (codes "workers ") 1 512 line))
    (either IsSettingInRange (ring_line line) _ (mapped IsSettingInRange Ring _ (behind_is (codes "ring ") 1 4096 line))
    (either IsSettingInRange (retry_line line) _ (mapped IsSettingInRange Retry _ (behind_is (codes "retry ") 1 1000 line))
    (mapped IsSettingInRange Limit _ (behind_is (codes "limit ") 1 1000000 line))))

settings_are : (line : List ℕ) → IfSome (setting_line line) IsSettingInRange
settings_are line =
    either IsSettingInRange (server_line line) _ (servers_are line)
    (either IsSettingInRange (head_line line) _ (mapped IsSettingInRange Head _ (behind_is (codes "head ") 1 65535 line))
    (either IsSettingInRange (body_line line) _ (mapped IsSettingInRange Body _ (behind_is (codes "body ") 1 16777216 line))
    (either IsSettingInRange (cut_line line) _ (mapped IsSettingInRange Cut _ (behind_is (codes "cut ") 1 65536 line))
    (either IsSettingInRange (bare_setting line) _ (bare_settings_are line)
    (mapped IsSettingInRange Handle (handler_line line) (each (λ _. ⊤) (λ _. tt) (handler_line line)))))))

bare_are : (line : List ℕ) → IfSome (bare_line line) IsPlaceInRange
bare_are line =
    tested IsPlaceInRange (bytes_eq line (codes "listener")) (Some Listener) _ tt
    (tested IsPlaceInRange (bytes_eq line (codes "late")) (Some Late) _ tt
    (tested IsPlaceInRange (bytes_eq line (codes "skip")) (Some Skip) _ tt
    (tested IsPlaceInRange (bytes_eq line (codes "fail-listener")) (Some FailListener) _ tt
    (tested IsPlaceInRange (bytes_eq line (codes "wait")) (Some Wait) _ tt
    (tested IsPlaceInRange (bytes_eq line (codes "write-wait")) (Some WriteWait) _ tt
    (tested IsPlaceInRange (bytes_eq line (codes "fail-read")) (Some FailRead) _ tt
    (tested IsPlaceInRange (bytes_eq line (codes "fail-write")) (Some FailWrite) None tt tt)))))))

unbounded_conn : (peer : Option Peer) → IfSome (option_map Conn peer) IsPlaceInRange
unbounded_conn None = tt
unbounded_conn (Some peer) = tt

unbounded_give : (bytes : Option (List ℕ)) → IfSome (option_map Give bytes) IsPlaceInRange
unbounded_give None = tt
unbounded_give (Some bytes) = tt

places_are : (line : List ℕ) → IfSome (place_line line) IsPlaceInRange
places_are line =
    either IsPlaceInRange (bare_line line) _ (bare_are line)
    (either IsPlaceInRange (conn_line line) _ (tested IsPlaceInRange (starts_with nat_eq line (codes "conn ")) (option_map Conn (peer_of (drop 5 line))) None (unbounded_conn (peer_of (drop 5 line))) tt)
    (either IsPlaceInRange (take_line line) _ (mapped IsPlaceInRange Take _ (behind_is (codes "take ") 1 65536 line))
    (tested IsPlaceInRange (starts_with nat_eq line (codes "give ")) (some_bytes (drop 5 line)) None (unbounded_give (option_and_then text_bytes (some_text (drop 5 line)))) tt)))

told_are : (line : List ℕ) → IfSome (told_by line) IsInRange
told_are line =
    either IsInRange (option_map Setting (setting_line line)) _ (mapped IsInRange Setting (setting_line line) (settings_are line))
    (either IsInRange (option_map Place (place_line line)) _ (mapped IsInRange Place (place_line line) (places_are line))
    (mapped IsInRange Policy (policy_line line) (each (λ _. ⊤) (λ _. tt) (policy_line line))))

-- what was read is in range
pub read_in_range : {E : Type 0} (read : Result (Option Line) E) (line : List ℕ) → IfOk read (λ said. said ≡ told_by line) → IfOk read (λ said. IfSome said IsInRange)
read_in_range (Ok said) line is = subst (λ (told : Option Line). IfSome told IsInRange) (sym is) (told_are line)
read_in_range (Err e) line is = tt
