-- A fault of a phase is the refusal of the text, and a text has one program or one refusal.
use Rattle.std.proofs.Common.{◌≡◌, ℕ, Bool, List, ◌⊎◌, inl, inr, refl, sym, ap, ◌∙◌, subst}
use Rattle.join_base.specs.declared.fault.Kind.{Kind}
use Rattle.join_base.specs.declared.fault.Front.{Front}
use Rattle.join_base.specs.declared.fault.Front.TheVariants as front
use Rattle.join_lex.specs.Versions.{says_second}
use Rattle.join_lex.specs.declared.token.Token.{Token}
use Rattle.join_lex.specs.Tokens.{TokensOfText}
use Rattle.join_lex.specs.Lexical.{Fault, IsFirstFault, AreTokensOf, NamesFault, kind_of}
use Rattle.join_lex.specs.Lexical as lexer
use Rattle.join_parse.specs.Grammar.{TreeOfText}
use Rattle.join_parse.specs.Levels.{most_levels}
use Rattle.join_parse.specs.Faults.{IsTheTree, IsTheRefusal}
use Rattle.join_parse.specs.Faults as grammar
use Rattle.scope_check.specs.Checked.{IsProgramOf}
use Rattle.scope_check.specs.Checked as scope
use Rattle.scope_check.specs.declared.fault.Fault as found
use Rattle.chem_model.specs.ProgramFacts.{ProgramTerms}
use Rattle.text_program.specs.Text.{IsRefusal, lexical, grammatical, of_the_tree, IsProgramOfText}
use Rattle.text_program.specs.Text.{HasOneOutcome}
use Rattle.text_program.specs.inside.Text.{NamesRefusal}

pub by_tokens : (text : List ℕ) (t : TokensOfText) (e : Front) → AreTokensOf t text
    → IsTheRefusal t e → NamesRefusal text e
by_tokens text t (front.Refused kind place) are h = grammatical t are h
by_tokens text t front.Memory are h = tt

pub by_tree : (text : List ℕ) (t : TokensOfText) (tree : TreeOfText) (e : Front)
    → AreTokensOf t text → IsTheTree t.list tree → scope.IsRefusedAs tree e → NamesRefusal text e
by_tree text t tree (front.Refused kind place) are is h = of_the_tree t tree are is h
by_tree text t tree front.Memory are is h = tt

module _ (lexed : (text : List ℕ) → lexer.HasOneOutcome text)
    (parsed : (second : Bool) (limit end : ℕ) (tokens : List Token)
    → grammar.HasOneOutcome second limit end tokens)
    (checked : (t : TreeOfText) → scope.HasOneOutcome t) where
  -- tokens in their version
  outcome_of : (t : TokensOfText)
      → grammar.HasOneOutcome (says_second t.list) (most_levels (says_second t.list))
      t.length t.list
  outcome_of t = parsed (says_second t.list) (most_levels (says_second t.list)) t.length t.list

  -- two readings of a text have one tree
  same_tree : (text : List ℕ) (t u : TokensOfText) (tree other : TreeOfText) → AreTokensOf t text
      → AreTokensOf u text → IsTheTree t.list tree → IsTheTree u.list other → tree ≡ other
  same_tree text t u tree other a b is h =
      let same : t ≡ u = (lexed text).one_list t u a b in
      let is' : IsTheTree u.list tree =
      subst (λ (v : TokensOfText). IsTheTree v.list tree) same is in
      (outcome_of u).one_tree tree other is'.is h.is

  never : (text : List ℕ) (p : ProgramTerms) (kind : Kind) (place : ℕ) → IsProgramOfText text p
      → IsRefusal text kind place → ⊥
  never text p kind place h (lexical (fault, k, first)) =
      (lexed text).not_both h.tokens fault place h.are_tokens first
  never text p kind place h (grammatical t are refused) =
      let same : h.tokens ≡ t = (lexed text).one_list h.tokens t h.are_tokens are in
      let is : IsTheTree t.list h.tree =
      subst (λ (v : TokensOfText). IsTheTree v.list h.tree) same h.is_tree in
      (outcome_of t).tree_or_fault h.tree kind place is refused
  never text p kind place h (of_the_tree t tree are is refused) =
      let same = same_tree text h.tokens t h.tree tree h.are_tokens are h.is_tree is in
      let program : IsProgramOf tree p =
      subst (λ (v : TreeOfText). IsProgramOf v p) same h.is_program in
      (checked tree).never_both p (record { kind = kind; place = place }) program refused

  -- a text whose tokens stand has no lexical fault, and one with a tree no fault of the grammar
  not_lexical : (text : List ℕ) (t : TokensOfText) (kind : Kind) (place : ℕ) → AreTokensOf t text
      → NamesFault (front.Refused kind place) text → ⊥
  not_lexical text t kind place are (fault, k, first) =
      (lexed text).not_both t fault place are first

  not_grammatical :
      (text : List ℕ) (t u : TokensOfText) (tree : TreeOfText) (kind : Kind) (place : ℕ)
      → AreTokensOf t text → AreTokensOf u text
      → IsTheRefusal t (front.Refused kind place) → IsTheTree u.list tree → ⊥
  not_grammatical text t u tree kind place are be refused is =
      let same : u ≡ t = (lexed text).one_list u t be are in
      (outcome_of t).tree_or_fault tree kind place
      (subst (λ (v : TokensOfText). IsTheTree v.list tree) same is) refused

  one_refusal : (text : List ℕ) (kind kind' : Kind) (place place' : ℕ) → IsRefusal text kind place
      → IsRefusal text kind' place' → (kind ≡ kind') × (place ≡ place')
  one_refusal text kind kind' place place' (lexical (fault, k, first))
      (lexical (other, k', first')) =
      let same = (lexed text).one_fault fault other place place' first first' in
      (k ∙ ap kind_of same.0 ∙ sym k', same.1)
  one_refusal text kind kind' place place' (lexical h) (grammatical u be refused') =
      absurd (not_lexical text u kind place be h)
  one_refusal text kind kind' place place' (lexical h) (of_the_tree u other be is' refused') =
      absurd (not_lexical text u kind place be h)
  one_refusal text kind kind' place place' (grammatical t are refused) (lexical h) =
      absurd (not_lexical text t kind' place' are h)
  one_refusal text kind kind' place place' (grammatical t are refused) (grammatical u be refused') =
      let same : t ≡ u = (lexed text).one_list t u are be in
      let moved : IsTheRefusal u (front.Refused kind place) =
      subst (λ (v : TokensOfText). IsTheRefusal v (front.Refused kind place)) same refused in
      (outcome_of u).one_fault kind kind' place place' moved refused'
  one_refusal text kind kind' place place' (grammatical t are refused)
      (of_the_tree u other be is' refused') =
      absurd (not_grammatical text t u other kind place are be refused is')
  one_refusal text kind kind' place place' (of_the_tree t tree are is refused) (lexical h) =
      absurd (not_lexical text t kind' place' are h)
  one_refusal text kind kind' place place' (of_the_tree t tree are is refused)
      (grammatical u be refused') =
      absurd (not_grammatical text u t tree kind' place' be are refused' is)
  one_refusal text kind kind' place place' (of_the_tree t tree are is refused)
      (of_the_tree u other be is' refused') =
      let same = same_tree text t u tree other are be is is' in
      let moved : scope.IsRefusedAs other (front.Refused kind place) =
      subst (λ (v : TreeOfText). scope.IsRefusedAs v (front.Refused kind place)) same refused in
      let one = (checked other).one_fault (record { kind = kind; place = place })
      (record { kind = kind'; place = place' }) moved refused' in
      (ap (λ (f : found.Fault). f.kind) one, ap (λ (f : found.Fault). f.place) one)

  -- ---- each text has one of them

  abbrev Outcome : List ℕ → Type 0
  Outcome text = ((p : ProgramTerms) × IsProgramOfText text p)
      ⊎ ((kind : Kind) × (place : ℕ) × IsRefusal text kind place)

  by_check : (text : List ℕ) (t : TokensOfText) (tree : TreeOfText) → AreTokensOf t text
      → IsTheTree t.list tree
      → ((p : ProgramTerms) × IsProgramOf tree p)
      ⊎ ((f : found.Fault) × scope.IsRefusedAs tree (front.Refused f.kind f.place)) → Outcome text
  by_check text t tree are is (inl (p, program)) = inl
      (p, record { tokens = t; tree = tree; are_tokens = are; is_tree = is; is_program = program })
  by_check text t tree are is (inr (f, first)) =
      inr (f.kind, f.place, of_the_tree t tree are is first)

  by_parse : (text : List ℕ) (t : TokensOfText) → AreTokensOf t text
      → ((tree : TreeOfText) × IsTheTree t.list tree)
      ⊎ ((kind : Kind) × (place : ℕ) × IsTheRefusal t (front.Refused kind place)) → Outcome text
  by_parse text t are (inl (tree, is)) = by_check text t tree are is (checked tree).some
  by_parse text t are (inr (kind, place, refused)) = inr (kind, place, grammatical t are refused)

  by_lex : (text : List ℕ)
      → ((t : TokensOfText) × AreTokensOf t text)
      ⊎ ((fault : Fault) × (place : ℕ) × IsFirstFault fault place text) → Outcome text
  by_lex text (inl (t, are)) = by_parse text t are (outcome_of t).some
  by_lex text (inr (fault, place, first)) = inr (kind_of fault, place, lexical (fault, refl, first))

  pub one_outcome : (text : List ℕ) → HasOneOutcome text
  one_outcome text = record {
    some = by_lex text (lexed text).some;
    one_program = λ p q a b.
        let same = same_tree text
        a.tokens b.tokens a.tree b.tree a.are_tokens b.are_tokens a.is_tree b.is_tree in
        let program : IsProgramOf b.tree p =
        subst (λ (v : TreeOfText). IsProgramOf v p) same a.is_program in
        (checked b.tree).one_program p q program b.is_program;
    never_both = never text;
    one_refusal = one_refusal text;
  }
