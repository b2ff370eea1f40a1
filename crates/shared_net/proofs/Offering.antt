-- Proposals of events that may not fit.
use Rattle.std.proofs.Common.{◌≡◌, ℕ, length, refl, sym, ap, ◌∙◌, subst, arith, ◌⊎◌, inl, inr}
use Rattle.std.specs.Prelude.{Result, Ok, Err, IfOk}
use Rattle.chem_model.specs.declared.memory.Memory.{Memory}
use Rattle.chem_model.specs.declared.event.Event.{Event}
use Rattle.trace_history.specs.Kept.{BookKept}
use Rattle.site_turn.specs.declared.turn.Turn.{Turn}
use Rattle.site_turn.specs.declared.turn.Turn.TheVariants.{Did, Passed, Nothing, NotEnabled, Full}
use Rattle.shared_net.specs.Passes.{PassKept}
use Rattle.shared_net.specs.Proposes.{IsFull, Proposes, pass_after}
use Rattle.shared_net.specs.Proposes.{with_receipt}
use Rattle.shared_net.specs.Offers.{Offers, Turned, MayHaveCommitted}
use Rattle.shared_net.specs.Offers.{MayGain}

module _ (old : BookKept) (held : PassKept) (e : Event) where
  -- what fits, or is refused before that is asked
  pub offers_of : (Fits : Type 0) (turn : Turn) (new : BookKept) (after : PassKept)
      → Fits ⊎ IsFull old held → Proposes old held e turn new after
      → Offers Fits old held e turn new after
  offers_of Fits Full new after fits p = record { answer = p.answer; book = p.book; pass = p.pass }
  offers_of Fits Nothing new after fits p =
      record { answer = (p.answer.0, inl p.answer.1); book = p.book; pass = p.pass }
  offers_of Fits NotEnabled new after (inl f) p = record {
    answer = (record { room = p.answer.0; fits = f }, p.answer.1);
    book = p.book;
    pass = p.pass;
  }
  offers_of Fits NotEnabled new after (inr full) p = absurd (omega (arith, full, p.answer.0.0))
  offers_of Fits (Did place) new after (inl f) p = record {
    answer = (record { room = p.answer.0; fits = f }, p.answer.1, p.answer.2);
    book = p.book;
    pass = p.pass;
  }
  offers_of Fits (Did place) new after (inr full) p = absurd (omega (arith, full, p.answer.0.0))
  offers_of Fits Passed new after fits p = absurd p.answer

  -- the same said of what fits
  pub offers_as : (P Q : Type 0) (turn : Turn) (new : BookKept) (after : PassKept) → (P → Q)
      → (Q → P) → Offers P old held e turn new after → Offers Q old held e turn new after
  offers_as P Q Full new after f g h = record { answer = h.answer; book = h.book; pass = h.pass }
  offers_as P Q Nothing new after f g h = record {
    answer =
        (h.answer.0, elim h.answer.1 [ inl behind ↦ inl behind | inr not ↦ inr (λ q. not (g q)) ]);
    book = h.book;
    pass = h.pass;
  }
  offers_as P Q NotEnabled new after f g h = record {
    answer = (record { room = h.answer.0.room; fits = f h.answer.0.fits }, h.answer.1);
    book = h.book;
    pass = h.pass;
  }
  offers_as P Q (Did place) new after f g h = record {
    answer = (record { room = h.answer.0.room; fits = f h.answer.0.fits }, h.answer.1, h.answer.2);
    book = h.book;
    pass = h.pass;
  }
  offers_as P Q Passed new after f g h = absurd h.answer

  -- an event that was made fits
  pub made_fits : (Fits : Type 0) (turn : Turn) (place : ℕ) (new : BookKept) (after : PassKept)
      → Offers Fits old held e turn new after → turn ≡ Did place → Fits
  made_fits Fits turn place new after h is =
      (subst (λ (t : Turn). Offers Fits old held e t new after) is h).answer.0.fits

  -- ---- the pass

  turned : (turn : Turn) (after : PassKept) → (turn ≡ Passed → ⊥) → after ≡ pass_after held e turn
      → Turned held turn after
  turned (Did place) after not is = (e, is)
  turned Passed after not is = absurd (not refl)
  turned Nothing after not is = is
  turned NotEnabled after not is = is
  turned Full after not is = is

  pub offer_turned : (Fits : Type 0) (turn : Turn) (new : BookKept) (after : PassKept)
      → Offers Fits old held e turn new after → Turned held turn after
  offer_turned Fits turn new after p = turned turn after
      (λ is. (subst (λ (t : Turn). Offers Fits old held e t new after) is p).answer) p.pass

  -- ---- want of memory after the book has answered

  pub proposal_may : (Is : Event → Type 0) (turn : Turn) (new : BookKept) (after : PassKept) → Is e
      → Proposes old held e turn new after → MayHaveCommitted Is old held new after
  proposal_may Is Full new after is p = inl (record { book = p.book; pass = p.pass })
  proposal_may Is Nothing new after is p = inl (record { book = p.book; pass = p.pass })
  proposal_may Is NotEnabled new after is p = inl (record { book = p.book; pass = p.pass })
  proposal_may Is Passed new after is p = absurd p.answer
  proposal_may Is (Did place) new after is p = inr (record {
    event = e;
    event_is = is;
    book = p.book;
    pass = p.pass ∙ ap (λ (k : ℕ). with_receipt held k e) p.answer.2;
  })

  pub offer_may :
      (Is : Event → Type 0) (Fits : Type 0) (turn : Turn) (new : BookKept) (after : PassKept) → Is e
      → Offers Fits old held e turn new after → MayHaveCommitted Is old held new after
  offer_may Is Fits Full new after is p = inl (record { book = p.book; pass = p.pass })
  offer_may Is Fits Nothing new after is p = inl (record { book = p.book; pass = p.pass })
  offer_may Is Fits NotEnabled new after is p = inl (record { book = p.book; pass = p.pass })
  offer_may Is Fits Passed new after is p = absurd p.answer
  offer_may Is Fits (Did place) new after is p = inr (record {
    event = e;
    event_is = is;
    book = p.book;
    pass = p.pass ∙ ap (λ (k : ℕ). with_receipt held k e) p.answer.2;
  })

pub may_gain :
    (Is : Event → Type 0) (old : BookKept) (held : PassKept) (new : BookKept) (after : PassKept)
    → MayHaveCommitted Is old held new after → MayGain held after
may_gain Is old held new after (inl h) = inl h.pass
may_gain Is old held new after (inr h) =
    inr (record { place = length old.journal; event = h.event; pass = h.pass })

-- ---- the pass, once the book has answered

pub turned_gains : (held : PassKept) (turn : Turn) (after : PassKept) → Turned held turn after
    → MayGain held after
turned_gains held (Did place) after h = inr (record { place = place; event = h.0; pass = h.1 })
turned_gains held Passed after h = absurd h
turned_gains held Nothing after h = inl h
turned_gains held NotEnabled after h = inl h
turned_gains held Full after h = inl h

-- the turn is what the book answered
pub turned_as : (held : PassKept) (turn : Turn) (after : PassKept) → Turned held turn after
    → (r : Result Turn Memory) → IfOk r (λ (answer : Turn). answer ≡ turn)
    → IfOk r (λ (answer : Turn). Turned held answer after)
turned_as held turn after h (Ok answer) same =
    subst (λ (t : Turn). Turned held t after) (sym same) h
turned_as held turn after h (Err m) same = tt
