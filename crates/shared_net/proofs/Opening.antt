-- What the openings of sites send is their mail.
use Rattle.std.proofs.Common.{◌≡◌, ℕ, zero, suc, ◌+◌, ◌≤◌, Bool, true, false, cond, List, []}
use Rattle.std.proofs.Common.{◌∷◌, ◌++◌, ◌==◌, length, Some, refl, sym, ap, ◌∙◌, subst, arith}
use Rattle.std.proofs.Common.{slice_get, append_assoc, eqb-true, eq-eqb, ◌<◌, drop, get_or}
use Rattle.std.specs.Prelude.{slice_set}
use Rattle.chem_model.specs.Each.{Each}
use Rattle.chem_laws.proofs.Lists.{append_nil}
use Rattle.env_store.specs.declared.code.SiteCode.{SiteCode}
use Rattle.env_store.specs.CodeParts.{CodeParts}
use Rattle.wire_packet.specs.MessageFacts.{MessageParts}
use Rattle.wire_packet.specs.declared.packet.Flight.{Flight}
use Rattle.loc_tree.specs.Tree.{Tree}
use Rattle.net_laws.specs.Net.{Addressed, Net}
use Rattle.net_laws.specs.Opened.{opened_by, with_opened, all_opened, opened_net, unopened}
use Rattle.net_laws.proofs.Holds.{each_get}
use Rattle.site_solution.specs.Answers.{IsFlightOf, AreFlights}
use Rattle.site_solution.specs.declared.effects.Effects.{Effects}
use Rattle.site_turn.specs.Mail.{IsMessageText, AreSpelled}
use Rattle.site_turn.specs.Opening.{AreHanded, AreOpened}
use Rattle.site_turn.specs.declared.opening.OpenedSites.{OpenedSites}
use Rattle.site_turn.proofs.Coming.{spelled_more}
use Rattle.shared_net.specs.Preparing.{messages_to, IsMailOf, IsOpenedAs}
use Rattle.shared_net.specs.inside.Beginning.{with_text, with_flights, with_sends, AreFirstMails}

-- ---- mail

messages_more : (i : ℕ) (ps qs : List Addressed)
    → messages_to i (ps ++ qs) ≡ messages_to i ps ++ messages_to i qs
messages_more i [] qs = refl
messages_more i (p ∷ ps) qs = go (p.target == i) (messages_more i ps qs)
  where
    go : (b : Bool) → messages_to i (ps ++ qs) ≡ messages_to i ps ++ messages_to i qs
        → cond b (p.msg ∷ messages_to i (ps ++ qs)) (messages_to i (ps ++ qs))
        ≡ cond b (p.msg ∷ messages_to i ps) (messages_to i ps) ++ messages_to i qs
    go true e = ap (λ ms. p.msg ∷ ms) e
    go false e = e

record HasText (i : ℕ) (text : List ℕ) (mails : List (List (List ℕ)))
    (mail : List (List ℕ)) : Type 0 where
  was : List (List ℕ)
  at : slice_get mails i ≡ Some was
  is : mail ≡ was ++ text ∷ []

text_here : (i : ℕ) (text : List ℕ) (mails : List (List (List ℕ))) (mail : List (List ℕ))
    → slice_get (with_text i text mails) i ≡ Some mail → HasText i text mails mail
text_here i text [] mail e = cc
text_here zero text (x ∷ mails) mail e =
    let same : x ++ text ∷ [] ≡ mail = cc in
    record { was = x; at = refl; is = sym same }
text_here (suc i) text (x ∷ mails) mail e =
    let h = text_here i text mails mail e in
    record { was = h.was; at = h.at; is = h.is }

text_elsewhere : (k i : ℕ) (text : List ℕ) (mails : List (List (List ℕ))) → (k ≡ i → ⊥)
    → slice_get (with_text k text mails) i ≡ slice_get mails i
text_elsewhere k i text [] other = refl
text_elsewhere zero zero text (x ∷ mails) other = absurd (other refl)
text_elsewhere zero (suc i) text (x ∷ mails) other = refl
text_elsewhere (suc k) zero text (x ∷ mails) other = refl
text_elsewhere (suc k) (suc i) text (x ∷ mails) other =
    text_elsewhere k i text mails (λ e. other (ap suc e))

text_long : (k : ℕ) (text : List ℕ) (mails : List (List (List ℕ)))
    → length (with_text k text mails) ≡ length mails
text_long k text [] = refl
text_long zero text (x ∷ mails) = refl
text_long (suc k) text (x ∷ mails) = ap suc (text_long k text mails)

flights_mail_long : (fs : List Flight) (mails : List (List (List ℕ)))
    → length (with_flights fs mails) ≡ length mails
flights_mail_long [] mails = refl
flights_mail_long (f ∷ fs) mails =
    flights_mail_long fs (with_text f.target f.bytes mails) ∙ text_long f.target f.bytes mails

not_both : (b : Bool) → b ≡ true → b ≡ false → ⊥
not_both b e f = cc

mail_one : (ps : List Addressed) (q : Addressed) (f : Flight) (mails : List (List (List ℕ)))
    → IsFlightOf q f → IsMailOf ps mails
    → IsMailOf (ps ++ q ∷ []) (with_text f.target f.bytes mails)
mail_one ps q f mails flight h i mail at =
    subst (λ ms. AreSpelled ms mail) (sym (messages_more i ps (q ∷ []))) (go (q.target == i) refl)
  where
    go : (b : Bool) → q.target == i ≡ b
        → AreSpelled (messages_to i ps ++ cond b (q.msg ∷ []) []) mail
    go true e =
        let to : f.target ≡ i = flight.to ∙ eqb-true q.target i e in
        let here : slice_get (with_text i f.bytes mails) i ≡ Some mail =
        ap (λ k. slice_get (with_text k f.bytes mails) i) (sym to) ∙ at in
        let t = text_here i f.bytes mails mail here in
        subst (AreSpelled (messages_to i ps ++ q.msg ∷ [])) (sym t.is)
        (spelled_more (messages_to i ps) q.msg t.was f.bytes (h i t.was t.at) flight.spelled)
    go false e =
        let other : f.target ≡ i → ⊥ =
        λ same. not_both (q.target == i) (eq-eqb q.target i (sym flight.to ∙ same)) e in
        subst (λ ms. AreSpelled ms mail) (sym (append_nil (messages_to i ps)))
        (h i mail (sym (text_elsewhere f.target i f.bytes mails other) ∙ at))

mail_more : (ps qs : List Addressed) (fs : List Flight) (mails : List (List (List ℕ)))
    → AreFlights qs fs → IsMailOf ps mails → IsMailOf (ps ++ qs) (with_flights fs mails)
mail_more ps [] [] mails flights h = subst (λ qs. IsMailOf qs mails) (sym (append_nil ps)) h
mail_more ps [] (f ∷ fs) mails flights h = absurd flights
mail_more ps (q ∷ qs) [] mails flights h = absurd flights
mail_more ps (q ∷ qs) (f ∷ fs) mails flights h =
    subst (λ xs. IsMailOf xs (with_flights fs (with_text f.target f.bytes mails)))
    (append_assoc ps (q ∷ []) qs)
    (mail_more (ps ++ q ∷ []) qs fs (with_text f.target f.bytes mails)
    flights.1 (mail_one ps q f mails flights.0 h))

-- a text more, by its place
pub text_put : (k : ℕ) (text : List ℕ) (mails : List (List (List ℕ))) (mail : List (List ℕ))
    → slice_get mails k ≡ Some mail → slice_set mails k (mail ++ text ∷ []) ≡ with_text k text mails
text_put k text [] mail e = cc
text_put zero text (x ∷ mails) mail e =
    let same : x ≡ mail = cc in
    ap (λ m. (m ++ text ∷ []) ∷ mails) (sym same)
text_put (suc k) text (x ∷ mails) mail e = ap (λ ms. x ∷ ms) (text_put k text mails mail e)

pub text_past : (k : ℕ) (text : List ℕ) (mails : List (List (List ℕ))) → length mails ≤ k
    → mails ≡ with_text k text mails
text_past k text [] h = refl
text_past zero text (x ∷ mails) h = absurd (omega arith)
text_past (suc k) text (x ∷ mails) h = ap (λ ms. x ∷ ms) (text_past k text mails (omega arith))

spelled_texts : (ms : List MessageParts) (texts : List (List ℕ)) → AreSpelled ms texts
    → Each IsMessageText texts
spelled_texts [] [] h = tt
spelled_texts [] (text ∷ texts) h = absurd h
spelled_texts (m ∷ ms) [] h = absurd h
spelled_texts (m ∷ ms) (text ∷ texts) h = ((m, h.0), spelled_texts ms texts h.1)

all_texts : (f : ℕ → List MessageParts) (mails : List (List (List ℕ)))
    → ((i : ℕ) (mail : List (List ℕ)) → slice_get mails i ≡ Some mail → AreSpelled (f i) mail)
    → Each (Each IsMessageText) mails
all_texts f [] h = tt
all_texts f (mail ∷ mails) h = (
  spelled_texts (f 0) mail (h 0 mail refl),
  all_texts (λ i. f (suc i)) mails (λ i m e. h (suc i) m e),
)

pub mails_spelled : (ps : List Addressed) (mails : List (List (List ℕ))) → IsMailOf ps mails
    → Each (Each IsMessageText) mails
mails_spelled ps mails h = all_texts (λ i. messages_to i ps) mails h

-- ---- all sites

none_spelled : (mails : List (List (List ℕ))) → Each (λ (mail : List (List ℕ)). mail ≡ []) mails
    → IsMailOf [] mails
none_spelled mails h i mail at =
    subst (AreSpelled []) (sym (each_get (λ (m : List (List ℕ)). m ≡ []) mails i mail at h)) tt

handed_mail : (c : CodeParts) (i : ℕ) (sites : List SiteCode) (net : Net) (es : List Effects)
    (mails : List (List (List ℕ))) → AreHanded c i sites net.tree es → IsMailOf net.packets mails
    → IsMailOf (all_opened c i sites net).packets (with_sends es mails)
handed_mail c i [] net [] mails h mail = mail
handed_mail c i [] net (e ∷ es) mails h mail = absurd h
handed_mail c i (site ∷ sites) net [] mails h mail = absurd h
handed_mail c i (site ∷ sites) net (e ∷ es) mails h mail =
    let sends = (opened_by c net.tree i site).sends in
    handed_mail c (i + 1) sites (with_opened c i site net) es (with_flights e.sends mails) h.2
    (mail_more net.packets sends e.sends mails h.1 mail)

handed_long : (es : List Effects) (mails : List (List (List ℕ)))
    → length (with_sends es mails) ≡ length mails
handed_long [] mails = refl
handed_long (e ∷ es) mails =
    handed_long es (with_flights e.sends mails) ∙ flights_mail_long e.sends mails

pub opened_as : (version : ℕ) (c : CodeParts) (o : OpenedSites) (mails : List (List (List ℕ)))
    → AreOpened version c o → AreFirstMails (length o.sites.items) o.handed.items mails
    → IsOpenedAs version c o.tree o.sites.items mails
opened_as version c o mails opened first = record {
  tree = record {
    roots = ap (λ (t : Tree). t.roots) opened.tree;
    entries = ap (λ (t : Tree). t.entries) opened.tree;
  };
  sites_are = opened.sites;
  boxes = ap length first.are ∙ handed_long o.handed.items first.before ∙ first.many;
  mail = subst (IsMailOf (opened_net version c).packets) (sym first.are)
      (handed_mail c 0 c.sites (unopened version c) o.handed.items first.before opened.handed
      (none_spelled first.before first.none));
}

pub drop_at : {X : Type 0} (xs : List X) (n : ℕ) (x : X) → n < length xs → x ≡ get_or xs n x
    → drop n xs ≡ x ∷ drop (n + 1) xs
drop_at [] n x low e = absurd (omega arith)
drop_at (y ∷ ys) zero x low e = ap (λ z. z ∷ ys) (sym e)
drop_at (y ∷ ys) (suc n) x low e =
    let later = drop_at ys n x (omega arith) e in
    let place : suc (n + 1) ≡ suc n + 1 = omega arith in
    later ∙ ap (λ (k : ℕ). x ∷ drop k (y ∷ ys)) place
