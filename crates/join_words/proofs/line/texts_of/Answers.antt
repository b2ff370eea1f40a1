use Rattle.std.proofs.Common.{◌≡◌, ◌∙◌, ◌<◌, sym, subst, ap, ap₂, arith, [], ◌∷◌, ◌++◌, map, take}
use Rattle.std.proofs.Common.{length, string_bytes}
use Rattle.std.proofs.lemmas.List.{take_more, map-append}
use Rattle.std.proofs.lemmas.List.Elements.{All-append, All-cons}
use Rattle.std.specs.List.{All}
use Rattle.std.specs.Str.{IsUtf8}
use Rattle.join_words.proofs.line.texts_of.Goals as goal

nothing : All IsUtf8 []
nothing k d h = absurd (omega arith)

pub loop-word-preserved : goal.loop-word-preserved
loop-word-preserved c =
    let grown : map (λ s. s.now) c.push.new.self.items
    ≡ map (λ s. s.now) c.loop-word.texts.items ++ c.as_str.result.now ∷ [] =
    ap (map (λ s. s.now)) c.in_ok-push.ensures.items
    ∙ map-append (λ s. s.now) c.loop-word.texts.items (c.as_str.result ∷ []) in
    let lt : c.loop-word.word-index < length c.args.words.now = omega arith in
    let more = take_more c.args.words.now c.loop-word.word-index c.word-item.result lt in
    record {
      same = grown
          ∙ ap₂ (λ a b. a ++ b ∷ [])
          c.loop-word.invariant.same (c.as_str.ensures.value ∙ ap string_bytes c.word-item.is)
          ∙ sym (ap (map string_bytes) more
          ∙ map-append string_bytes (take c.loop-word.word-index c.args.words.now) _);
      text = subst (All IsUtf8) (sym grown)
          (All-append IsUtf8 (map (λ s. s.now) c.loop-word.texts.items) (c.as_str.result.now ∷ [])
          c.loop-word.invariant.text
          (All-cons IsUtf8 c.as_str.result.now [] c.as_str.utf8 nothing));
    }
