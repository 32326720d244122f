use Rattle.std.proofs.Common.{◌≡◌, ◌<◌, ◌^◌, true, take, drop}
use Rattle.std.specs.{List.list_all, Char.is_ascii_digit, Str.Parse.digits_value, Str.Parse.digits_value_after}
use Rattle.edit_lang.proofs.number.parse_number.Given as goal

abbrev pub invariant-loop-byte : goal.invariant-loop-byte
invariant-loop-byte l = record {
  digits : list_all is_ascii_digit (take l.byte-index l.word) ≡ true;
  value : digits_value_after 10 l.value (drop l.byte-index l.word) ≡ digits_value 10 l.word;
  bound : l.value < 10 ^ l.byte-index;
}
