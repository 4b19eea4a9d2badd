-- The bytes of a response, part by part.
use Rattle.std.proofs.Common.{◌≡◌, ℕ, Bool, true, false, List, [], ◌++◌, length, codes, decimal, refl, append_assoc, append-nil}
use Rattle.std.specs.Prelude.{◌==◌, bytes_eq}
use Rattle.http1_grammar.specs.Wire.{status_line, field_lines, has_no_length, length_line, connection_line, body_part, wire_of}
use Rattle.http_plain.specs.declared.status.Status.{Status}
use Rattle.http_plain.specs.declared.status.Status.TheVariants as is
use Rattle.http_plain.specs.Statuses.{number_of, response_of}

-- none of them is 205
not_reset : (status : Status) → (number_of status == 205) ≡ false
not_reset is.Ok = refl
not_reset is.NoContent = refl
not_reset is.BadRequest = refl
not_reset is.NotFound = refl
not_reset is.TooLarge = refl
not_reset is.FieldsTooLarge = refl

pub no_length : (status : Status) (size : ℕ) → has_no_length (number_of status) ≡ true → [] ≡ length_line (number_of status) size
unfolding length_line
no_length status size h = rw h refl

pub some_length : (status : Status) (size : ℕ) → has_no_length (number_of status) ≡ false
    → codes "content-length: " ++ (decimal size ++ codes "\r\n") ≡ length_line (number_of status) size
unfolding length_line
some_length status size h = rw (h, not_reset status) refl

pub headless : (status : Status) (body : List ℕ) → [] ≡ body_part true (number_of status) body
unfolding body_part
headless status body = refl

pub no_body : (status : Status) (body : List ℕ) → has_no_length (number_of status) ≡ true → [] ≡ body_part false (number_of status) body
unfolding body_part
no_body status body h = rw h refl

pub some_body : (status : Status) (body : List ℕ) → has_no_length (number_of status) ≡ false → body ≡ body_part false (number_of status) body
unfolding body_part
some_body status body h = rw (h, not_reset status) refl

-- the parts one behind another
pub parts_are : (method : List ℕ) (minor status : ℕ) (body : List ℕ) (closing : Bool) (w0 w1 w2 w3 w4 l c e b : List ℕ)
    → w0 ≡ status_line status → w1 ≡ w0 ++ l → l ≡ length_line status (length body) → w2 ≡ w1 ++ c → c ≡ connection_line minor closing
    → w3 ≡ w2 ++ e → e ≡ codes "\r\n" → w4 ≡ w3 ++ b → b ≡ body_part (bytes_eq method (codes "HEAD")) status body
    → w4 ≡ wire_of method minor (response_of status body) closing
unfolding wire_of field_lines
parts_are method minor status body closing w0 w1 w2 w3 w4 l c e b p0 p1 q1 p2 q2 p3 q3 p4 q4 =
    rw (p4, p3, p2, p1, p0, q1, q2, q3, q4) (simp (append_assoc, append-nil))
