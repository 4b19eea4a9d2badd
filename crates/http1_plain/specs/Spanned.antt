-- Headers as spans over the text that has their names and values.
use Rattle.std.specs.Prelude.{◌≡◌, ℕ, List, length, map, get_or}
use Rattle.httparse.specs.declared.spans.HeaderSpan.{HeaderSpan}
use Rattle.httparse.specs.Spans.{span_bytes, IsHeaderWithin, header_bytes}
use Rattle.http_header.specs.FieldName.{IsFieldName}
use Rattle.http1_grammar.specs.Headers.{Header}
use Rattle.http1_plain.specs.Fields.{IsValue, lowered}

-- the header whose name and value the span covers, with its name in lower case
abbrev pub header_at : List ℕ → HeaderSpan → Header
header_at text span = lowered (header_bytes text span)

abbrev pub headers_at : List ℕ → List HeaderSpan → List Header
headers_at text spans = map (header_at text) spans

-- the span lies in the text, and covers a name in any case and a value
pub record IsSpanOf (text : List ℕ) (span : HeaderSpan) : Type 0 where
  pub within : IsHeaderWithin (length text) span
  pub name : IsFieldName (span_bytes text span.name)
  pub value : IsValue (span_bytes text span.value)

-- the header stands at the place
abbrev pub StandsAt : List Header → ℕ → Header → Type 0
StandsAt headers place header = header ≡ get_or headers place header
