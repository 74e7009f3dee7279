-- The row of a path, made of what was found and asked.
use Rattle.std.proofs.Common.{Result, Ok, Err, codes, ◌≡◌, ◌≤◌, ◌<◌, ◌∙◌, sym, ap, ap₂, subst, refl, inr, arith, ℕ, zero, suc, ◌+◌, ◌-◌}
use Rattle.std.proofs.Common.{Bool, true, false, if◌then◌else◌, List, [], ◌∷◌, ◌++◌, Option, Some, None, option_map, option_and_then}
use Rattle.std.proofs.Common.{string_bytes}
use Rattle.std.proofs.lemmas.Slice.Eq.{bytes_eq-Decides}
use Rattle.std.specs.Str.{bytes_eq}
use Rattle.mk_paths.specs.World.{World, FileMap, files_in, search_path_of}
use Rattle.mk_paths.specs.FilesView.{FilesView, Question, noted}
use Rattle.mk_paths.specs.Place.{place, places_asked, AsksPlaces}
use Rattle.mk_paths.specs.declared.search_path.Settings.{Settings}
use Rattle.mk_eval.specs.Costs.{CostFew, value_units}
use Rattle.mk_eval.specs.Expanded.{Expanded}
use Rattle.mk_eval.specs.Meaning.{means, value_of_variable}
use Rattle.mk_eval.specs.declared.outcome.Evaluated.{Evaluated}
use Rattle.mk_eval.specs.declared.outcome.Failed.{Failed}
use Rattle.mk_eval.specs.declared.outcome.Kind.{Kind}
use Rattle.mk_eval.specs.declared.outcome.Kind.TheVariants as kinds
use Rattle.port_rules.specs.Records.{RecordsCostFew, record_of, record_units}
use Rattle.port_rules.specs.declared.records.Recorded.{Recorded}
use Rattle.mk_eval.specs.Agreement.{Agrees, cost_of, questions_of}
use Rattle.eval_cache.specs.Keys.{Key, key_for}
use Rattle.eval_cache.specs.Right.{evaluation_of}
use Rattle.pkg_path.specs.Paths.{PathValue, path_if_one}
use Rattle.read_trace.specs.Recorder.{with_trace}
use Rattle.read_trace.specs.declared.evaluation.Evaluation.{Evaluation}
use Rattle.port_index.specs.Efforts.{evaluations_at, evaluations_for, has_makefile, is_there}
use Rattle.port_index.specs.NamedPaths.{finding-own, finding-named, finding-none, questions-own, questions-named}
use Rattle.port_index.specs.Pairs.{Pair, pair_in, pair_named, pair_at}
use Rattle.port_index.specs.PathOutcomes.{port_finding, list_finding, finding_by, Finding, finding_at, cost_at, finding_in, finding_named}
use Rattle.port_index.specs.PathOutcomes.{finding_of, finding_of_evaluation, nothing_found, own_directory}
use Rattle.port_index.specs.PathQuestions.{questions_in, questions_after, questions_at}
use Rattle.port_index.specs.Spent.{SpendsOnOne, SpendsOn, evaluation_cost}
use Rattle.turn_amounts.specs.declared.spent.Spent.{Spent}
use Rattle.index_row.specs.Rows.{RowValue}
use Rattle.index_row.specs.Seen.{kept_row_seen}
use Rattle.turn_amounts.specs.Spent.{IsUpFrom, total_of}
use Rattle.eval_ask.specs.Ask.{AsksOn, EvaluatesInTime, HasComeTo, HasLooked, IsAnswerTo, IsShort, IsUpBy, MakesInTime, spent_in}
use Rattle.eval_ask.specs.Ask.{spent_less_saved}
use Rattle.mk_base.specs.declared.budget.TheConstants.{UNITS}
use Rattle.index_keep.specs.Paths.{directory_named, flavors_named, row_made, IsNamed, IsFoundAt, IsPathAsk, IsMade}
use Rattle.index_keep.specs.Right.{row_with, IsRightRow}
use Rattle.eval_ask.specs.declared.ask.Asked.{Asked}
use Rattle.eval_ask.specs.declared.ask.AskTurned.{AskTurned}
use Rattle.eval_ask.specs.declared.ask.AskTurned.TheVariants as asks
use Rattle.index_keep.specs.declared.path_ask.FoundPath.{FoundPath}
use Rattle.index_keep.specs.declared.path_ask.MadeRow.{MadeRow}
use Rattle.index_keep.specs.declared.path_ask.PathAsk.{PathAsk}
use Rattle.index_keep.specs.declared.path_ask.NamedDirectory.{NamedDirectory}
use Rattle.index_keep.specs.declared.path_ask.NamedDirectory.TheVariants.{Own, OfPath}
use Rattle.eval_ask.proofs.AnswerLemmas.{SpendsOnOne-answer, cost-within, few-come, in-time-looked, short-looked, within-answer}

pub Agrees-joined : (files : FileMap) (first rest : List Question) → Agrees files first → Agrees files rest → Agrees files (first ++ rest)
Agrees-joined files [] rest agrees more = more
Agrees-joined files (question ∷ first) rest agrees more = (agrees.0, Agrees-joined files first rest agrees.1 more)

-- ---- the place of a directory was asked for, after nothing was

module _ (first : FilesView) (settings : Settings) (directory : List ℕ) (before found : FilesView) (nothing : before ≡ with_trace first [])
    (asks : AsksPlaces before found settings.path directory) where
  asked_first : found ≡ noted (with_trace first []) (places_asked first.files settings.path directory)
  asked_first = subst (λ (view : FilesView). found ≡ noted view (places_asked view.files settings.path directory)) nothing asks

-- ---- the directory that a path names

module _ (world : World) (path : List ℕ) where
  pair_by : bytes_eq path own_directory ≡ false → (named : Option PathValue) → path_if_one path ≡ named
      → pair_at world path ≡ option_and_then (pair_named world) named
  pair_by other named is =
      ap (λ (b : Bool). if b then pair_in world path None else option_and_then (pair_named world) (path_if_one path)) other
      ∙ ap (option_and_then (pair_named world)) is

  finding_in_named : (named : NamedDirectory) → IsNamed path (Some named) → finding_at world path ≡ finding_in world
      (directory_named named) (flavors_named named)
  finding_in_named Own is = finding-own world path is ∙ ap (λ directory. finding_in world directory None)
      ((bytes_eq-Decides path own_directory).0 is)
  finding_in_named (OfPath found) is = finding-named world path found is.0 is.1

  questions_in_named : (named : NamedDirectory) → IsNamed path (Some named) → questions_at world path ≡ questions_in world
      (directory_named named) (flavors_named named)
  questions_in_named Own is = questions-own world path is ∙ ap (λ directory. questions_in world directory None)
      ((bytes_eq-Decides path own_directory).0 is)
  questions_in_named (OfPath found) is = questions-named world path found is.0 is.1

  pair_in_named : (named : NamedDirectory) → IsNamed path (Some named) → pair_at world path ≡ pair_in world
      (directory_named named) (flavors_named named)
  pair_in_named Own is =
      ap (λ (b : Bool). if b then pair_in world path None else option_and_then (pair_named world) (path_if_one path)) is
      ∙ ap (λ directory. pair_in world directory None) ((bytes_eq-Decides path own_directory).0 is)
  pair_in_named (OfPath found) is = pair_by is.0 (Some found) is.1

  -- nothing is there, if it is nothing that is found
  absent_by : finding_at world path ≡ nothing_found → has_makefile world path ≡ false
  absent_by none = ap (λ (finding : Finding). is_there finding.outcome) none

  -- a text that is no path
  pub absent-unnamed : IsNamed path None → has_makefile world path ≡ false
  absent-unnamed none = absent_by (finding-none world path none.0 none.1)

  -- a directory without a makefile
  pub absent-there : (named : NamedDirectory) → IsNamed path (Some named) → place world (directory_named named) ≡ None
      → has_makefile world path ≡ false
  absent-there named is none = absent_by (finding_in_named named is ∙ ap (finding_of world (flavors_named named)) none)

  module _ (named : NamedDirectory) (is : IsNamed path (Some named)) (placed : List Question)
      (asked : placed ≡ places_asked (files_in world) (search_path_of world) (directory_named named))
      (answered : Agrees (files_in world) placed) where
    -- a makefile is there
    pub IsFoundAt-placed : (found : FoundPath) → found.named ≡ named → string_bytes found.path ≡ path → found.placed ≡ placed
        → place world (directory_named named) ≡ Some found.makefile → IsFoundAt world found
    IsFoundAt-placed found same at places there = record {
      finding =
          ap (finding_at world) at ∙ finding_in_named named is ∙ ap (finding_of world (flavors_named named)) there
          ∙ ap (λ (n : NamedDirectory). finding_of_evaluation found.makefile (flavors_named n)
          (means world found.makefile (flavors_named n))) (sym same);
      questions =
          ap (questions_at world) at ∙ questions_in_named named is
          ∙ ap (λ makefile. places_asked (files_in world) (search_path_of world) (directory_named named) ++ questions_after world
          (flavors_named named) makefile) there
          ∙ ap (λ first. first ++ questions_of world.0 world.1 found.makefile (flavors_named named)) (sym asked ∙ sym places)
          ∙ ap (λ (n : NamedDirectory). found.placed ++ questions_of world.0 world.1 found.makefile (flavors_named n)) (sym same);
      pair =
          ap (pair_at world) at ∙ pair_in_named named is
          ∙ ap (option_map (λ makefile. let one : Pair = record { makefile = makefile; flavors = flavors_named named } in one)) there
          ∙ ap (λ (n : NamedDirectory). Some (let one : Pair = record { makefile = found.makefile; flavors = flavors_named n } in one))
          (sym same);
      answered = subst (Agrees (files_in world)) (sym places) answered;
    }

-- ---- the row of a path whose makefile is there

module _ (world : World) (found : FoundPath) (at : IsFoundAt world found) (asked : Asked) (made : MadeRow)
    (path_is : string_bytes made.path ≡ string_bytes found.path) (row_is : kept_row_seen made.row ≡ row_made found asked)
    (spent_is : made.spent ≡ spent_less_saved asked (kept_row_seen made.row).cost) where
  abbrev pub key : Key
  key = key_for world.1 found.makefile (flavors_named found.named)

  right_made : asked.evaluation.value ≡ evaluation_of (files_in world) key → Agrees (files_in world) asked.evaluation.value.trace
      → IsRightRow world (string_bytes found.path) (kept_row_seen made.row)
  right_made is answered = record {
    same = row_is
        ∙ ap (λ (e : Evaluation). row_with (finding_of_evaluation found.makefile (flavors_named found.named) e.outcome)
        (found.placed ++ e.trace)) is
        ∙ ap₂ row_with (sym at.finding) (sym at.questions);
    answered = subst (Agrees (files_in world)) (ap (λ (e : Evaluation). found.placed ++ e.trace) is ∙ sym at.questions)
        (Agrees-joined (files_in world) found.placed asked.evaluation.value.trace at.answered answered);
  }

  pub IsMade-found : asked.evaluation.value ≡ evaluation_of (files_in world) key → Agrees (files_in world) asked.evaluation.value.trace
      → ((cost : ℕ) → SpendsOnOne cost (cost_of (evaluation_of (files_in world) key).outcome) 1 (spent_less_saved asked cost))
      → IsMade world (string_bytes found.path) made
  IsMade-found is answered spends = record {
    at = path_is;
    row = right_made is answered;
    spent = subst (λ (pair : Option Pair). SpendsOn world (cost_at world (string_bytes found.path)) pair made.spent) (sym at.pair)
        (subst (λ (s : Spent). SpendsOnOne (cost_at world (string_bytes found.path)) (cost_of (evaluation_of (files_in world) key).outcome)
        1 s)
        (sym (spent_is ∙ ap (spent_less_saved asked) (ap (λ (r : RowValue). r.cost) (right_made is answered).same)))
        (spends (cost_at world (string_bytes found.path))));
  }

-- ---- a turn that ends the evaluation

cost_port : (n spent : ℕ) (recorded : Result Recorded Failed) → n ≤ spent → n ≤ UNITS → n ≤ (port_finding spent recorded).cost
cost_port n spent (Ok recorded) low few = omega (arith, low, few)
cost_port n spent (Err failed) low few = omega (arith, low, few)

cost_list : (n spent : ℕ) (value : Result (Option Expanded) Failed) → n ≤ spent → n ≤ UNITS → n ≤ (list_finding spent value).cost
cost_list n spent (Ok value) low few = omega (arith, low, few)
cost_list n spent (Err failed) low few = omega (arith, low, few)

cost_after : (n : ℕ) (makefile : List ℕ) (flavors : Option (List (List ℕ))) (evaluated : Evaluated) (kind : Kind) → n ≤ evaluated.cost
    → n ≤ UNITS → n ≤ (finding_by makefile flavors evaluated kind).cost
cost_after n makefile flavors evaluated kinds.Port low few = cost_port n evaluated.cost (record_of evaluated.env makefile) low few
cost_after n makefile (Some flavors) evaluated kinds.List low few = low
cost_after n makefile None evaluated kinds.List low few = cost_list n evaluated.cost
    (value_of_variable evaluated.env makefile (codes "SUBDIR")) low few
cost_after n makefile flavors evaluated kinds.Other low few = low

-- a path costs no less than its makefile's evaluation
cost_up : (n : ℕ) (makefile : List ℕ) (flavors : Option (List (List ℕ))) (outcome : Result Evaluated Failed) → n ≤ cost_of outcome
    → n ≤ UNITS → n ≤ (finding_of_evaluation makefile flavors outcome).cost
cost_up n makefile flavors (Ok evaluated) low few = cost_after n makefile flavors evaluated evaluated.kind low few
cost_up n makefile flavors (Err failed) low few = low

-- what was spent so far on a path is no more than it costs
pub within-path : (world : World) (path : List ℕ) (self : PathAsk) → IsPathAsk world path self → (units : ℕ)
    → ((files : FileMap) (key : Key) → HasComeTo files key self.ask → units ≤ cost_of (evaluation_of files key).outcome)
    → units ≤ cost_at world path
within-path world path self is units within =
    let makefile = self.found.makefile in
    let flavors = flavors_named self.found.named in
    let outcome = means world makefile flavors in
    let low : units ≤ cost_of outcome = within (files_in world) (key_for world.1 makefile flavors) is.come in
    let all : cost_of outcome ≤ UNITS = cost-within (files_in world) (key_for world.1 makefile flavors) in
    let up = cost_up units makefile flavors outcome low (omega (arith, low, all)) in
    let cost : cost_at world path ≡ (finding_of_evaluation makefile flavors outcome).cost = ap (cost_at world) (sym is.at)
    ∙ ap (λ (finding : Finding). finding.cost) is.found.finding in
    omega (arith, up, cost)

there_after : (makefile : List ℕ) (flavors : Option (List (List ℕ))) (evaluated : Evaluated) (kind : Kind)
    → is_there (finding_by makefile flavors evaluated kind).outcome ≡ true
there_after makefile flavors evaluated kinds.Port = port (record_of evaluated.env makefile)
  where
    port : (recorded : Result Recorded Failed) → is_there (port_finding evaluated.cost recorded).outcome ≡ true
    port (Ok recorded) = refl
    port (Err failed) = refl
there_after makefile (Some flavors) evaluated kinds.List = refl
there_after makefile None evaluated kinds.List = lists (value_of_variable evaluated.env makefile (codes "SUBDIR"))
  where
    lists : (value : Result (Option Expanded) Failed) → is_there (list_finding evaluated.cost value).outcome ≡ true
    lists (Ok value) = refl
    lists (Err failed) = refl
there_after makefile flavors evaluated kinds.Other = refl

there : (makefile : List ℕ) (flavors : Option (List (List ℕ))) (outcome : Result Evaluated Failed)
    → is_there (finding_of_evaluation makefile flavors outcome).outcome ≡ true
there makefile flavors (Ok evaluated) = there_after makefile flavors evaluated evaluated.kind
there makefile flavors (Err failed) = refl

-- a path whose makefile was found has one
pub there-found : (world : World) (found : FoundPath) → IsFoundAt world found → has_makefile world (string_bytes found.path) ≡ true
there-found world found is =
    ap (λ (finding : Finding). is_there finding.outcome) is.finding ∙ there found.makefile (flavors_named found.named)
    (means world found.makefile (flavors_named found.named))

-- its makefile is there
pub one-evaluation : (world : World) (path : List ℕ) (self : PathAsk) → IsPathAsk world path self → evaluations_at world path ≡ 1
one-evaluation world path self is =
    ap (evaluations_at world) (sym is.at) ∙ ap {B = ℕ} (λ (b : Bool). if b then 1 else 0) (there-found world self.found is.found)

-- ---- the row that is made of an evaluation that is at its end

module _ (files : FileMap) (found : FoundPath) (asked : Asked) (made : MadeRow)
    (path_is : string_bytes made.path ≡ string_bytes found.path) (row_is : kept_row_seen made.row ≡ row_made found asked)
    (spent_is : made.spent ≡ spent_less_saved asked (kept_row_seen made.row).cost) where
  -- nothing is taken back
  pub made-up : (key : Key) → IsAnswerTo files key asked → IsUpFrom (spent_in (asks.Done asked)) made.spent
  made-up key is =
      let outcome = asked.evaluation.value.outcome in
      let same : cost_of outcome ≡ cost_of (evaluation_of files key).outcome = ap (λ (e : Evaluation). cost_of e.outcome) is.evaluation in
      let all : cost_of outcome ≤ UNITS = omega (arith, same, cost-within files key) in
      let up = cost_up (cost_of outcome) found.makefile (flavors_named found.named) outcome (omega arith) all in
      let row : (kept_row_seen made.row).cost ≡ (finding_of_evaluation found.makefile (flavors_named found.named) outcome).cost =
      ap (λ (r : RowValue). r.cost) row_is in
      let units : made.spent.units ≡ (kept_row_seen made.row).cost - (cost_of outcome - asked.units) =
      ap (λ (s : Spent). s.units) spent_is in
      record {
        units = omega (arith, up, row, units, same, within-answer files key asked is);
        checks = omega (arith, ap (λ (s : Spent). s.checks) spent_is);
      }

  pub made-row : (settings : Settings) (path : List ℕ) → string_bytes found.path ≡ path
      → (let world : World = (files, settings) in IsFoundAt world found)
      → IsAnswerTo files (key_for settings found.makefile (flavors_named found.named)) asked
      → (let world : World = (files, settings) in IsMade world path made)
  made-row settings path at there is =
      let world : World = (files, settings) in
      subst (λ path. IsMade world path made) at
      (IsMade-found world found there asked made path_is row_is spent_is is.evaluation is.answered
      (λ cost. SpendsOnOne-answer files (key_for settings found.makefile (flavors_named found.named)) asked cost is))

pub IsUpFrom-on : (first next last : Spent) → IsUpFrom first next → IsUpFrom next last → IsUpFrom first last
IsUpFrom-on first next last up more = record { units = omega (arith, up.units, more.units); checks = omega (arith, up.checks, more.checks) }

-- a turn that has nothing left
pub all-spent : (units : ℕ) (before after now : Spent) → now ≡ after → IsUpFrom before after
    → units - ((now.units - before.units) + (now.checks - before.checks)) ≡ 0
    → IsUpBy units before after
all-spent units before after now same up none =
    let units_same : now.units ≡ after.units = ap (λ (s : Spent). s.units) same in
    let checks_same : now.checks ≡ after.checks = ap (λ (s : Spent). s.checks) same in
    (up, omega (arith, units_same, checks_same, up.units, up.checks, none))

-- ---- what is spent in a turn

-- what is given is what is left of the turn's units, after a look in the same turn
module _ (files : FileMap) (settings : Settings) (path : PathAsk) (before : Spent) (came : AskTurned) (units given : ℕ)
    (is : let world : World = (files, settings) in IsPathAsk world (string_bytes path.found.path) path) (looked : HasLooked before path.ask)
    (up : IsUpFrom before (spent_in path.ask))
    (given_is : given ≡ units - (((spent_in path.ask).units - before.units) + ((spent_in path.ask).checks - before.checks)))
    (asks : AsksOn files given path.ask came) where
  abbrev in_world : World
  in_world = (files, settings)

  abbrev path_pair : Option Pair
  path_pair = Some (record { makefile = path.found.makefile; flavors = flavors_named path.found.named })

  abbrev path_key : Key
  path_key = key_for settings path.found.makefile (flavors_named path.found.named)

  pub in-time-on : EvaluatesInTime in_world (pair_at in_world (string_bytes path.found.path)) units before (spent_in came)
  in-time-on =
      subst (λ (pair : Option Pair). EvaluatesInTime in_world pair units before (spent_in came)) (sym is.found.pair)
      (in-time-looked in_world before (spent_in path.ask) (spent_in came) units given looked.units up.checks given_is asks.unchecked
      path_pair (asks.in_time path_key is.come))

  pub short-on : IsShort units before (spent_in came)
  short-on =
      short-looked in_world before (spent_in path.ask) (spent_in came) units given looked.units up.checks given_is asks.unchecked path_pair
      (few-come files path_key came (asks.comes path_key is.come)).0 looked.checks (asks.in_time path_key is.come)

-- a row that is made while some units are left
pub short-made : (units left : ℕ) (before middle made : Spent) → IsUpFrom before middle → (left ≡ 0 → ⊥)
    → left ≡ units - ((middle.units - before.units) + (middle.checks - before.checks)) → total_of made ≤ total_of middle + UNITS
    → IsShort units before made
short-made units zero before middle made up some is few = absurd (some refl)
short-made units (suc left) before middle made up some is few = omega (arith, is, up.units, up.checks, few)

made_low : (units left cost evaluation : ℕ) (before middle made : Spent) → IsUpFrom before middle → (left ≡ 0 → ⊥)
    → left ≡ units - ((middle.units - before.units) + (middle.checks - before.checks)) → made.units ≡ cost - (evaluation - middle.units)
    → made.checks ≡ middle.checks
    → total_of made < (total_of before + units) + (cost - evaluation)
made_low units zero cost evaluation before middle made up some is paid checked = absurd (some refl)
made_low units (suc left) cost evaluation before middle made up some is paid checked = omega (arith, is, up.units, up.checks, paid, checked)

-- is made in time
pub in-time-made : (world : World) (found : FoundPath) (asked : Asked) (made : MadeRow) (units left : ℕ)
    (before : Spent) → IsFoundAt world found
    → asked.evaluation.value ≡ evaluation_of (files_in world) (key_for world.1 found.makefile (flavors_named found.named))
    → IsMade world (string_bytes found.path) made
    → made.spent ≡ spent_less_saved asked (kept_row_seen made.row).cost → IsUpFrom before (spent_in (asks.Done asked)) → (left ≡ 0 → ⊥)
    → left ≡ units - ((asked.units - before.units) + (asked.checks - before.checks))
    → MakesInTime world (cost_at world (string_bytes found.path)) (pair_at world (string_bytes found.path)) units before made.spent
in-time-made world found asked made units left before at same is spent_is up some left_is =
    let cost : (kept_row_seen made.row).cost ≡ cost_at world (string_bytes found.path) = ap (λ (r : RowValue). r.cost) is.row.same in
    let evaluation : cost_of asked.evaluation.value.outcome ≡ evaluation_cost world (pair_at world (string_bytes found.path)) =
    ap (λ (e : Evaluation). cost_of e.outcome) same ∙ ap (evaluation_cost world) (sym at.pair) in
    let paid : made.spent.units ≡ (kept_row_seen made.row).cost - (cost_of asked.evaluation.value.outcome - asked.units) =
    ap (λ (s : Spent). s.units) spent_is in
    inr (made_low units left (cost_at world (string_bytes found.path)) (evaluation_cost world (pair_at world (string_bytes found.path)))
    before (spent_in (asks.Done asked)) made.spent up some left_is
    (paid ∙ ap₂ (λ (all : ℕ) (one : ℕ). all - (one - asked.units)) cost evaluation) (ap (λ (s : Spent). s.checks) spent_is))

most_port : (spent : ℕ) (recorded : Result Recorded Failed) → record_units recorded ≤ UNITS
    → (port_finding spent recorded).cost ≤ spent + UNITS
most_port spent (Ok recorded) few = omega (arith, few)
most_port spent (Err failed) few = omega (arith, few)

most_list : (spent : ℕ) (value : Result (Option Expanded) Failed) → value_units value ≤ UNITS
    → (list_finding spent value).cost ≤ spent + UNITS
most_list spent (Ok value) few = omega (arith, few)
most_list spent (Err failed) few = omega (arith, few)

most_after : CostFew → RecordsCostFew → (makefile : List ℕ) (flavors : Option (List (List ℕ))) (evaluated : Evaluated) (kind : Kind)
    → (finding_by makefile flavors evaluated kind).cost ≤ evaluated.cost + UNITS
most_after few records makefile flavors evaluated kinds.Port = most_port evaluated.cost (record_of evaluated.env makefile)
    (records evaluated.env makefile)
most_after few records makefile (Some flavors) evaluated kinds.List = omega arith
most_after few records makefile None evaluated kinds.List =
    most_list evaluated.cost (value_of_variable evaluated.env makefile (codes "SUBDIR"))
    (few.values evaluated.env makefile (codes "SUBDIR"))
most_after few records makefile flavors evaluated kinds.Other = omega arith

-- what a makefile describes costs few units more than its evaluation
pub most-found : CostFew → RecordsCostFew → (makefile : List ℕ) (flavors : Option (List (List ℕ))) (outcome : Result Evaluated Failed)
    → (finding_of_evaluation makefile flavors outcome).cost ≤ cost_of outcome + UNITS
most-found few records makefile flavors (Ok evaluated) = most_after few records makefile flavors evaluated evaluated.kind
most-found few records makefile flavors (Err failed) = omega arith

-- ---- a path without a makefile costs nothing

none_found : (world : World) (flavors : Option (List (List ℕ))) (makefile : Option (List ℕ))
    → evaluations_for (finding_of world flavors makefile).outcome ≡ 0
    → (finding_of world flavors makefile).cost ≡ 0
none_found world flavors (Some makefile) none =
    absurd (omega (arith, ap {B = ℕ} (λ (b : Bool). if b then 1 else 0) (there makefile flavors (means world makefile flavors)), none))
none_found world flavors None none = refl

none_named : (world : World) (path : Option PathValue) → evaluations_for (finding_named world path).outcome ≡ 0
    → (finding_named world path).cost ≡ 0
none_named world (Some path) none = none_found world path.flavors (place world path.directory) none
none_named world None none = refl

none_by : (world : World) (path : List ℕ) (own : Bool)
    → evaluations_for (if own then finding_in world path None else finding_named world (path_if_one path)).outcome ≡ 0
    → (if own then finding_in world path None else finding_named world (path_if_one path)).cost ≡ 0
none_by world path true none = none_found world None (place world path) none
none_by world path false none = none_named world (path_if_one path) none

pub none-at : (world : World) (path : List ℕ) → evaluations_at world path ≡ 0 → cost_at world path ≡ 0
unfolding finding_at
none-at world path none = none_by world path (bytes_eq path own_directory) none
