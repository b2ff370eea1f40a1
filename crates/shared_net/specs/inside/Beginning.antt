-- The mail of sites at their opening.
use Rattle.std.specs.Prelude.{◌≡◌, ℕ, zero, suc, List, [], ◌∷◌, ◌++◌, length}
use Rattle.chem_model.specs.Each.{Each}
use Rattle.wire_packet.specs.declared.packet.Flight.{Flight}
use Rattle.site_solution.specs.declared.effects.Effects.{Effects}

-- the mails with one text more for the site with this number, if there is one
abbrev pub with_text : ℕ → List ℕ → List (List (List ℕ)) → List (List (List ℕ))
with_text i text [] = []
with_text zero text (mail ∷ mails) = (mail ++ text ∷ []) ∷ mails
with_text (suc i) text (mail ∷ mails) = mail ∷ with_text i text mails

-- with the texts of these flights
abbrev pub with_flights : List Flight → List (List (List ℕ)) → List (List (List ℕ))
with_flights [] mails = mails
with_flights (f ∷ fs) mails = with_flights fs (with_text f.target f.bytes mails)

-- with all that these openings send
abbrev pub with_sends : List Effects → List (List (List ℕ)) → List (List (List ℕ))
with_sends [] mails = mails
with_sends (e ∷ es) mails = with_sends es (with_flights e.sends mails)

-- the mails of so many sites, which had none before these openings
pub record AreFirstMails (count : ℕ) (handed : List Effects) (mails : List (List (List ℕ)))
    : Type 0 where
  pub before : List (List (List ℕ))
  pub many : length before ≡ count
  pub none : Each (λ (mail : List (List ℕ)). mail ≡ []) before
  pub are : mails ≡ with_sends handed before
