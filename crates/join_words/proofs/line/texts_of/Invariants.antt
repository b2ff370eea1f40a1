use Rattle.std.proofs.Common.{◌≡◌, map, take, string_bytes}
use Rattle.std.specs.List.{All}
use Rattle.std.specs.Str.{IsUtf8}
use Rattle.join_words.proofs.line.texts_of.Given as goal

abbrev pub invariant-loop-word : goal.invariant-loop-word
invariant-loop-word l = record {
  same : map (λ s. s.now) l.texts.items ≡ map string_bytes (take l.word-index l.words);
  text : All IsUtf8 (map (λ s. s.now) l.texts.items);
}
