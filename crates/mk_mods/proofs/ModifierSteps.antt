-- Modifiers read from marks, one on.
use Rattle.std.proofs.Common.{◌≡◌, ℕ, zero, suc, ◌<◌, ◌≤◌, ◌++◌, true, List, [], ◌∷◌, length, Option, Some, None, option_map, refl, sym, ap}
use Rattle.std.proofs.Common.{◌∙◌, arith, append_assoc}
use Rattle.std.proofs.lemmas.Bool.{cond-true}
use Rattle.mk_mods.specs.Actions.{Action}
use Rattle.mk_text.specs.declared.profile.Profile.{Profile}
use Rattle.mk_mods.specs.declared.modifier_lists.ModsFault.{ModsFault}
use Rattle.mk_mods.specs.declared.modifier_lists.ModsFault.TheVariants as faults
use Rattle.mk_mods.specs.Marks.{TextMark, marks_of, is_char}
use Rattle.mk_mods.specs.Views.{IsUnread}
use Rattle.std.specs.Option.{option_and_then}
use Rattle.mk_mods.specs.Grammar.{first_modifier, after_colon, and_later, modifiers_by, modifiers_in, modifiers_of}

-- modifiers that were read before
abbrev pub actions_after : List Action → Option (List Action) → Option (List Action)
actions_after done later = option_map (λ actions. done ++ actions) later

-- reading marks gave these modifiers, and then what follows them is read
pub record ReadsOn (profile : Profile) (marks : List TextMark) (done : List Action) (behind : List TextMark) : Type 0 where
  pub fuel : ℕ
  pub enough : length behind ≤ fuel
  pub read : modifiers_in profile marks ≡ actions_after done (after_colon (modifiers_by profile fuel) behind)

one_more : (done : List Action) (action : Action) (o : Option (List Action))
    → actions_after done (option_map (λ actions. action ∷ actions) o) ≡ actions_after (done ++ action ∷ []) o
one_more done action None = refl
one_more done action (Some actions) = ap Some (sym (append_assoc done (action ∷ []) actions))

pub reads-first : (profile : Profile) (marks behind : List TextMark) (action : Action) → first_modifier profile marks ≡ Some
    (action, behind) → length behind < length marks → ReadsOn profile marks (action ∷ []) behind
reads-first profile [] behind action is shorter = absurd (omega arith)
reads-first profile (mark ∷ marks) behind action is shorter = record {
  fuel = length marks;
  enough = omega arith;
  read = ap (and_later (modifiers_by profile (length marks))) is;
}

more-by : (profile : Profile) (marks : List TextMark) (done : List Action) (action : Action) (mark : TextMark) (later rest : List TextMark)
    (fuel : ℕ) → length (mark ∷ later) ≤ fuel
    → modifiers_in profile marks ≡ actions_after done (after_colon (modifiers_by profile fuel) (mark ∷ later)) → is_char 58 mark ≡ true
    → first_modifier profile later ≡ Some (action, rest)
    → length rest < length later → ReadsOn profile marks (done ++ action ∷ []) rest
more-by profile marks done action mark later rest zero enough read colon is shorter = absurd (omega arith)
more-by profile marks done action mark later rest (suc fuel) enough read colon is shorter = record {
  fuel = fuel;
  enough = omega arith;
  read = read ∙ ap (actions_after done) (cond-true (is_char 58 mark) (modifiers_by profile (suc fuel) later) None colon)
      ∙ ap (λ o. actions_after done (and_later (modifiers_by profile fuel) o)) is
      ∙ one_more done action (after_colon (modifiers_by profile fuel) rest);
}

pub reads-more : (profile : Profile) (marks : List TextMark) (done : List Action) (behind : List TextMark) (action : Action)
    (mark : TextMark) (later rest : List TextMark) → ReadsOn profile marks done behind
    → behind ≡ mark ∷ later → is_char 58 mark ≡ true → first_modifier profile later ≡ Some (action, rest) → length rest < length later
    → ReadsOn profile marks (done ++ action ∷ []) rest
reads-more profile marks done behind action mark later rest so_far next colon is shorter =
    more-by profile marks done action mark later rest so_far.fuel (omega (arith, so_far.enough, ap length next))
    (so_far.read ∙ ap (λ l. actions_after done (after_colon (modifiers_by profile so_far.fuel) l)) next) colon is shorter

-- a text without marks, and one whose marks aren't modifiers
pub modifiers-unmarked : (profile : Profile) (text : List ℕ) (fault : ModsFault) → IsUnread (marks_of text) fault
    → IsUnread (modifiers_of profile text) fault
unfolding modifiers_of
modifiers-unmarked profile text faults.BadMod none = ap (option_and_then (modifiers_in profile)) none
modifiers-unmarked profile text (faults.Memory _) none = tt

pub modifiers-unread : (profile : Profile) (text : List ℕ) (marks : List TextMark) (fault : ModsFault) → marks_of text ≡ Some marks
    → IsUnread (modifiers_in profile marks) fault → IsUnread (modifiers_of profile text) fault
unfolding modifiers_of
modifiers-unread profile text marks faults.BadMod is none = ap (option_and_then (modifiers_in profile)) is ∙ none
modifiers-unread profile text marks (faults.Memory _) is none = tt
