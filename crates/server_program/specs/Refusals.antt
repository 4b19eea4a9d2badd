-- Why the program writes no report, and what it writes in its place.
use Rattle.std.specs.Prelude.{◌≡◌, ◌⊎◌, ◌<◌, ⊤, ℕ, true, false, List, Option, Some, Ok, Err, length}
use Rattle.cors_rules.specs.Refusing.{config_error}
use Rattle.replaying.specs.Reported.{IsReportOf}
use Rattle.script.specs.Script.{Plan, is_listening, plan_of}
use Rattle.server_program.specs.Statuses.{IsWholeScript, Starts, bad_line_text, cannot_listen_text, most_of_script, no_listener_text, no_worker_text, out_of_memory_text, read_failed_text, refused_text, too_long_text, usage_text}
use Rattle.server_program.specs.Stream.{Hands}
use Rattle.server_program.specs.declared.refusal.Refusal.{Refusal}
use Rattle.server_program.specs.declared.refusal.Refusal.TheVariants.{Usage, ReadFailed, TooLong, BadLine, NoListener, Policy, NoWorker, CannotListen, Memory}

-- the source gave these bytes, which are the whole of a script
pub record IsAsked (before after : Option (List ℕ)) (bytes : List ℕ) : Type 0 where
  pub handed : Hands before bytes after
  pub whole : IsWholeScript after bytes

-- why no script is read
abbrev pub IsUnread : Option (List ℕ) → Option (List ℕ) → Type 0 → Refusal → Type 0
IsUnread before after read_fault Usage = ⊥
IsUnread before after read_fault ReadFailed = read_fault
IsUnread before after read_fault TooLong = (bytes : List ℕ) × Hands before bytes after × (most_of_script < length bytes)
IsUnread before after read_fault (BadLine number) = ⊥
IsUnread before after read_fault NoListener = ⊥
IsUnread before after read_fault (Policy error) = ⊥
IsUnread before after read_fault NoWorker = ⊥
IsUnread before after read_fault CannotListen = ⊥
IsUnread before after read_fault Memory = ⊤

-- why a script that was read is not served
abbrev pub IsUnserved : Type 0 → List ℕ → Refusal → Type 0
IsUnserved start_refused bytes Usage = ⊥
IsUnserved start_refused bytes ReadFailed = ⊥
IsUnserved start_refused bytes TooLong = ⊥
IsUnserved start_refused bytes (BadLine number) = plan_of bytes ≡ Err number
IsUnserved start_refused bytes NoListener = (plan : Plan) × (plan_of bytes ≡ Ok plan) × (is_listening plan ≡ false)
IsUnserved start_refused bytes (Policy error) = (plan : Plan) × (plan_of bytes ≡ Ok plan) × (is_listening plan ≡ true) × (config_error plan.cors ≡ Some error)
IsUnserved start_refused bytes NoWorker = start_refused × ((plan : Plan) × (plan_of bytes ≡ Ok plan) × (is_listening plan ≡ true))
IsUnserved start_refused bytes CannotListen = ⊥
IsUnserved start_refused bytes Memory = ⊤

-- why connections that are made are not served
abbrev pub IsUnmade : Type 0 → Refusal → Type 0
IsUnmade start_refused Usage = ⊥
IsUnmade start_refused ReadFailed = ⊥
IsUnmade start_refused TooLong = ⊥
IsUnmade start_refused (BadLine number) = ⊥
IsUnmade start_refused NoListener = ⊥
IsUnmade start_refused (Policy error) = ⊥
IsUnmade start_refused NoWorker = start_refused
IsUnmade start_refused CannotListen = ⊥
IsUnmade start_refused Memory = ⊤

-- a script that is served by as many workers as were started, and the report of it
abbrev pub IsServed : (ℕ → Type 0) → List ℕ → List ℕ → Type 0
IsServed started bytes text = (plan : Plan) × (plan_of bytes ≡ Ok plan) × Starts plan × started plan.workers × IsReportOf plan text

abbrev pub IsMemory : ℕ → List ℕ → Type 0
IsMemory status text = (status ≡ 7) × (text ≡ out_of_memory_text)

-- the status and the text of a refusal; a text that is made may want memory
abbrev pub Tells : Refusal → ℕ → List ℕ → Type 0
Tells Usage status text = (status ≡ 2) × (text ≡ usage_text)
Tells ReadFailed status text = (status ≡ 5) × (text ≡ read_failed_text)
Tells TooLong status text = (status ≡ 3) × (text ≡ too_long_text)
Tells (BadLine number) status text = ((status ≡ 3) × (text ≡ bad_line_text number)) ⊎ IsMemory status text
Tells NoListener status text = (status ≡ 4) × (text ≡ no_listener_text)
Tells (Policy error) status text = ((status ≡ 4) × (text ≡ refused_text error)) ⊎ IsMemory status text
Tells NoWorker status text = (status ≡ 8) × (text ≡ no_worker_text)
Tells CannotListen status text = (status ≡ 9) × (text ≡ cannot_listen_text)
Tells Memory status text = IsMemory status text
