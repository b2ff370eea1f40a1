use Rattle.std.proofs.Common.{◌≡◌, ◌∙◌, ◌⊎◌, inl, inr, Bool, true, false, cond, sym, ap, ap₂, subst}
use Rattle.std.proofs.Common.{refl, List, [], ◌∷◌, Option, Some, None, Err, codes, map, option_map}
use Rattle.clap.proofs.WalkLemmas.{first_value-rows, one_text-rows}
use Rattle.clap.specs.Words.{app_of, fault_of, found_of, first_value, is_simple, is_simple_and_free}
use Rattle.clap.specs.Words.{kind_of, matches_of, one_text, rows_of, HasKind, IsAmong}
use Rattle.clap.specs.declared.error.kind.ErrorKind.TheVariants as kind
use Rattle.clap.specs.declared.parser.matches.Found.{Found}
use Rattle.clap.specs.Walk.{Row, first_of, one_of}
use Rattle.clap.specs.Kinds.{Kinds}
use Rattle.join_words.specs.Line.{Plain, Text, budget, by, loss, none, one, two, workers}
use Rattle.join_words.specs.inside.Command.{Gives, line_app, plain_given}
use Rattle.join_words.specs.Asks.{asked}
use Rattle.join_words.specs.declared.answer.WordEnd.{WordEnd}
use Rattle.join_words.specs.declared.answer.WordEnd.TheVariants.{Form, Memory}
use Rattle.join_words.proofs.Command.{line_app-free, line_app-simple}
use Rattle.join_words.proofs.Walks.{Fails, mode_of, ring_of}
use Rattle.join_words.proofs.Parses.{outcome, refused, taken}
use Rattle.join_words.proofs.line.texts_given.Goals as goal

same-plain : (p : Plain) → plain_given (mode_of p) (ring_of p) ≡ p
same-plain none = refl
same-plain (one m) = refl
same-plain (two m n) = refl

shown : (f : Found) (rows : List Row) (id : Text) (got : Option Text) (want : Option Text)
    → rows_of f ≡ rows → got ≡ first_value f id → first_of id rows ≡ want → got ≡ want
shown f rows id got want same read is = read ∙ first_value-rows f id ∙ ap (first_of id) same ∙ is

flag-is : (f : Found) (rows : List Row) (got b : Bool) → rows_of f ≡ rows
    → one_of (codes "log") rows ≡ Some (cond b (codes "true") (codes "false"))
    → (one_text f (codes "log") ≡ Some (codes "true") → got ≡ true)
    → (one_text f (codes "log") ≡ Some (codes "false") → got ≡ false) → got ≡ b
flag-is f rows got true same is on off =
    on (one_text-rows f (codes "log") ∙ ap (one_of (codes "log")) same ∙ is)
flag-is f rows got false same is on off =
    off (one_text-rows f (codes "log") ∙ ap (one_of (codes "log")) same ∙ is)

pub returns-in-Ok : goal.returns-in-Ok
returns-in-Ok c =
    let words : List Text = map (λ s. s.now) c.args.words.now in
    let command_is : app_of c.in_ok-command.command ≡ line_app = c.in_ok-command.ensures in
    let fault : fault_of line_app words ≡ [] =
    sym (ap (λ a. fault_of a words) command_is)
    ∙ c.in-Ok.ensures.kinds (ap is_simple_and_free command_is ∙ line_app-free) in
    let f = found_of c.in-Ok.matches in
    let same : rows_of f ≡ matches_of line_app words =
    (c.in-Ok.ensures.matches (ap is_simple command_is ∙ line_app-simple)).0
    ∙ ap (λ a. matches_of a words) command_is in
    elim (outcome words c.requires) [
      | refused h n ↦ absurd (subst Fails fault h)
      | taken l z n s ↦
          let mode =
          shown f _ (codes "mode") (option_map (λ s. s.now) c.line_texts-texts.result.mode)
          (mode_of l.plain) same c.line_texts-texts.ensures.mode s.mode in
          let ring =
          shown f _ (codes "ring") (option_map (λ s. s.now) c.line_texts-texts.result.ring)
          (ring_of l.plain) same c.line_texts-texts.ensures.ring s.ring in
          let budgets =
          shown f _ (codes "budget") (option_map (λ s. s.now) c.line_texts-texts.result.budget)
          l.budget same c.line_texts-texts.ensures.budget (s.fields budget) in
          let several =
          shown f _ (codes "workers") (option_map (λ s. s.now) c.line_texts-texts.result.workers)
          l.workers same c.line_texts-texts.ensures.workers (s.fields workers) in
          let bys = shown f _ (codes "by") (option_map (λ s. s.now) c.line_texts-texts.result.by)
          l.by same c.line_texts-texts.ensures.by (s.fields by) in
          let losses =
          shown f _ (codes "loss") (option_map (λ s. s.now) c.line_texts-texts.result.loss)
          l.loss same c.line_texts-texts.ensures.loss (s.fields loss) in
          let logs = flag-is f _ c.line_texts-texts.result.log l.log same
          s.log c.line_texts-texts.ensures.is_logged c.line_texts-texts.ensures.isnt_logged in
          let plains = ap₂ plain_given mode ring ∙ same-plain l.plain in
          n ∙ sym (λ i. Some (record {
            budget = budgets i;
            workers = several i;
            by = bys i;
            loss = losses i;
            log = logs i;
            plain = plains i;
          }))
    ]

-- `Form` comes for each kind but one
ends :
    (words : List Text) (ks : Kinds) (e : WordEnd)
    (k : Rattle.clap.specs.declared.error.kind.ErrorKind.ErrorKind)
    → (e ≡ Form → k ≡ kind.OutOfMemory → ⊥)
    → ((k ≡ kind.OutOfMemory) ⊎ IsAmong k ks) → (Fails ks → asked words ≡ None)
    → Gives words (Err e)
ends words ks Memory k form has nothing = tt
ends words ks Form k form (inl m) nothing = absurd (form refl m)
ends words [] Form k form (inr h) nothing = absurd h
ends words (x ∷ xs) Form k form (inr h) nothing = nothing tt

pub returns-in-Err : goal.returns-in-Err
returns-in-Err c =
    let words : List Text = map (λ s. s.now) c.args.words.now in
    let command_is : app_of c.in_ok-command.command ≡ line_app = c.in_ok-command.ensures in
    let has : HasKind (fault_of line_app words) c.in-Err.error =
    subst (λ a. HasKind (fault_of a words) c.in-Err.error) command_is
    (c.in-Err.ensures.kinds (ap is_simple_and_free command_is ∙ line_app-free)) in
    ends words (fault_of line_app words) c.end_of-end.result (kind_of c.in-Err.error)
    c.end_of-end.ensures.form has (λ h. elim (outcome words c.requires) [
      | refused h n ↦ n
      | taken l z n s ↦ absurd (subst Fails z h)
    ])
