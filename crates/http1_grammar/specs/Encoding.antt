-- What an encoder of chunks writes (RFC 9112, section 7.1).
use Rattle.std.specs.Prelude.{ℕ, ◌<◌, ◌^◌, List, ◌++◌, length, map, codes, flat_map}
use Rattle.std.specs.Char.{digit_char}
use Rattle.std.specs.Int.Digits.{digits_of}
use Rattle.httparse.specs.Ascii.{crlf_bytes}

-- a number above 0 in hexadecimal digits
abbrev pub hexadecimal : ℕ → List ℕ
hexadecimal number = map digit_char (digits_of 16 number)

-- a chunk of these bytes: how many they are in hexadecimal digits, CR LF, the bytes, CR LF
abbrev pub encoded_chunk : List ℕ → List ℕ
encoded_chunk bytes = hexadecimal (length bytes) ++ crlf_bytes ++ bytes ++ crlf_bytes

-- a body in chunks of these pieces: its chunks, then 0, CR LF, CR LF
abbrev pub encoded : List (List ℕ) → List ℕ
encoded pieces = flat_map encoded_chunk pieces ++ codes "0\r\n\r\n"

-- a piece that a chunk can carry: not empty, and of a size in at most 16 hexadecimal digits
abbrev pub IsCarried : List ℕ → Type 0
IsCarried bytes = (0 < length bytes) × (length bytes < 16 ^ 16)
