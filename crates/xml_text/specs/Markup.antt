-- Bytes that markup is made of (Extensible Markup Language 1.0, sections 2.3 to 3.1; RFC 20).
use Rattle.std.specs.Prelude.{ℕ, Bool, ◌||◌, ◌==◌, List}
use Rattle.std.specs.List.{list_all}
use Rattle.std.specs.Char.{is_ascii_alphabetic, is_ascii_digit}
use Rattle.stamp_values.specs.Ascii.{tab, line_feed, carriage_return, space, quote, hyphen, dot, colon, underscore}

-- `b'<'`
abbrev pub less_than : ℕ
less_than = 60

-- `b'>'`
abbrev pub greater_than : ℕ
greater_than = 62

-- `b'\''`
abbrev pub apostrophe : ℕ
apostrophe = 39

-- space, tab, line feed or carriage return
abbrev pub is_white : ℕ → Bool
is_white c = c == space || c == tab || c == line_feed || c == carriage_return

-- white space alone, or nothing
abbrev pub is_white_space : List ℕ → Bool
is_white_space s = list_all is_white s

-- a byte that may begin and end the value of an attribute
abbrev pub is_delimiter : ℕ → Bool
is_delimiter c = c == quote || c == apostrophe

-- an ASCII letter, `_` or `:`
abbrev pub is_name_start : ℕ → Bool
is_name_start c = is_ascii_alphabetic c || c == underscore || c == colon

-- a byte that may begin a name, a digit, `.` or `-`
abbrev pub is_name_byte : ℕ → Bool
is_name_byte c = is_name_start c || is_ascii_digit c || c == dot || c == hyphen
