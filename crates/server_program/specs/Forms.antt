-- The forms of the words of the command line.
use Rattle.std.specs.Prelude.{◌≤◌, ◌<◌, ⊤, ℕ, List, [], ◌∷◌, Option, Some, None, if◌then◌else◌, codes}
use Rattle.std.specs.Option.{option_and_then, option_map}
use Rattle.std.specs.Str.{bytes_eq, is_utf8}
use Rattle.script.specs.Numbers.{number_in, number_to}
use Rattle.server_program.specs.declared.form.Form.{Form}
use Rattle.server_program.specs.declared.form.Form.TheVariants.{Replay, Listen, Generate}

-- at most so many connections that come to an address
abbrev pub listen_form : List ℕ → List ℕ → Option Form
listen_form addr limit = if is_utf8 addr then option_map Listen (number_in 1 1000000 limit) else None

-- so many connections, made from this seed
abbrev pub generate_form : List ℕ → List ℕ → Option Form
generate_form count seed = option_and_then (λ n. option_map (λ k. Generate n k) (number_to 2147483647 seed)) (number_in 1 100000 count)

-- what the words ask for, where they have a form
abbrev pub form_of : List (List ℕ) → Option Form
form_of [] = None
form_of (word ∷ []) = if bytes_eq word (codes "replay") then Some Replay else None
form_of (word ∷ second ∷ []) = None
form_of (word ∷ second ∷ third ∷ []) =
    if bytes_eq word (codes "listen") then listen_form second third
    else if bytes_eq word (codes "generate") then generate_form second third
    else None
form_of (word ∷ second ∷ third ∷ more ∷ rest) = None

abbrev pub IsFormInRange : Form → Type 0
IsFormInRange Replay = ⊤
IsFormInRange (Listen limit) = limit ≤ 1000000
IsFormInRange (Generate count seed) = (count ≤ 100000) × (seed < 2147483648)
