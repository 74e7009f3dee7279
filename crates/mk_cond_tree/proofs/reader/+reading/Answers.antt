use Rattle.std.proofs.Common.{◌≡◌, ◌<◌, ◌≤◌, ◌++◌, ◌∷◌, [], List, length, map, Option, Some, None, IfSome, sym, ap, subst, ◌∙◌, arith}
use Rattle.std.proofs.lemmas.List.{map-append}
use Rattle.std.specs.Borrow.{Bor}
use Rattle.mk_cond_tree.specs.declared.tokens.Token.{Token}
use Rattle.mk_cond_tree.specs.Trees.{Negated, Grouped}
use Rattle.mk_cond_tree.specs.Reader.{Reader, after_or, after_and, close_group, negate, group, read_not, read_and}
use Rattle.mk_cond_tree.specs.Views.{shown_read, tokens_left, term_tree, condition_tree, conjunction_tree, tree-not, tree-group}
use Rattle.mk_cond_tree.proofs.Chains.{continued, continued-ends, continued-more, continued-refused, Shrinks, TakesSome}
use Rattle.mk_cond_tree.proofs.Sound.{and-takes, or-takes, not-shrinks, and-shrinks}
use Rattle.mk_cond_tree.proofs.Levels.{negation-zero, group-zero, negation-below, group-below}
use Rattle.mk_cond_tree.proofs.reader.+reading.Goals as goal

-- The loops that read operands, each after a sign: what `read_sign` gives is what follows the sign, and `read_next` the next operand.
module _ {A T : Type 0} (sign : List Token → Option (List Token)) (read : Reader A) (takes : TakesSome sign)
    (shrinks : Shrinks read) (shown : T → A) where
  sign_is : (rest : List Token) (behind : Bor (List Token)) (read_sign : Option (Bor (List Token))) → read_sign ≡ Some behind
      → tokens_left read_sign ≡ sign rest → sign rest ≡ Some behind.now
  sign_is rest behind read_sign some sign_read = sym sign_read ∙ ap tokens_left some

  next_is : (behind : List Token) (next : Option (T × Bor (List Token))) (read_next : Option (T × Bor (List Token))) → read_next ≡ next
      → shown_read shown read_next ≡ read behind → read behind ≡ shown_read shown next
  next_is behind next read_next some nexts = sym nexts ∙ ap (shown_read shown) some

  -- each iteration leaves fewer tokens
  fewer : (rest : List Token) (behind left : Bor (List Token)) (next : T) {read_sign : Option (Bor (List Token))}
      {read_next : Option (T × Bor (List Token))}
      → read_sign ≡ Some behind → tokens_left read_sign ≡ sign rest → read_next ≡ Some (next, left)
      → shown_read shown read_next ≡ read behind.now → length left.now < length rest
  fewer rest behind left next {read_sign} {read_next} some sign_read some_next nexts =
      let low : length behind.now < length rest = subst (λ o. IfSome o (λ l. length l < length rest))
      (sign_is rest behind read_sign some sign_read) (takes rest) in
      let more : length left.now ≤ length behind.now =
      subst (λ o. IfSome o (λ x. length x.1 ≤ length behind.now)) (next_is behind.now (Some (next, left)) read_next some_next nexts)
      (shrinks behind.now) in
      omega arith

  -- one more operand is kept
  one_more : (all : Option (List A × List Token)) (done now : List T) (rest : List Token) (behind left : Bor (List Token)) (next : T)
      {read_sign : Option (Bor (List Token))} {read_next : Option (T × Bor (List Token))}
      → now ≡ done ++ next ∷ [] → read_sign ≡ Some behind → tokens_left read_sign ≡ sign rest → read_next ≡ Some (next, left)
      → shown_read shown read_next ≡ read behind.now
      → continued sign read (map shown done) rest ≡ all → continued sign read (map shown now) left.now ≡ all
  one_more all done now rest behind left next {read_sign} {read_next} now_is some sign_read some_next nexts is =
      ap (λ l. continued sign read (map shown l) left.now) now_is ∙ ap (λ l. continued sign read l left.now)
      (map-append shown done (next ∷ []))
      ∙ sym (continued-more sign read takes shrinks (map shown done) rest behind.now left.now (shown next)
      (sign_is rest behind read_sign some sign_read) (next_is behind.now (Some (next, left)) read_next some_next nexts))
      ∙ is

  -- an operand is wanted and can't be read
  refused : (all : Option (List A × List Token)) (done : List T) (rest : List Token) (behind : Bor (List Token))
      {read_sign : Option (Bor (List Token))} {read_next : Option (T × Bor (List Token))}
      → read_sign ≡ Some behind → tokens_left read_sign ≡ sign rest → read_next ≡ None → shown_read shown read_next ≡ read behind.now
      → continued sign read (map shown done) rest ≡ all → None ≡ all
  refused all done rest behind {read_sign} {read_next} some sign_read none nexts is =
      sym (continued-refused sign read takes shrinks (map shown done) rest behind.now (sign_is rest behind read_sign some sign_read)
      (next_is behind.now None read_next none nexts)) ∙ is

  -- no sign comes next
  ended : (all : Option (List A × List Token)) (done : List T) (rest : List Token) {read_sign : Option (Bor (List Token))}
      → read_sign ≡ None → tokens_left read_sign ≡ sign rest
      → continued sign read (map shown done) rest ≡ all → Some (map shown done, rest) ≡ all
  ended all done rest {read_sign} none sign_read is =
      sym (continued-ends sign read takes shrinks (map shown done) rest (sym sign_read ∙ ap tokens_left none)) ∙ is

pub group-returns-then-levels-eq0 : goal.group-returns-then-levels-eq0
group-returns-then-levels-eq0 t c = group-zero c.args.levels c.args.tokens.now c.if-levels-eq0.true

pub group-returns-in_default : goal.group-returns-in_default
group-returns-in_default t c =
    ap (λ x. group (shown_read condition_tree x)) (sym c.in_default.is)
    ∙ group-below c.args.levels c.args.tokens.now (shown_read condition_tree c.in_ok-condition.field-0) c.if-levels-eq0.false
    c.in_ok-condition.ensures

pub group-returns-in_ok-new-in-Some-after_right : goal.group-returns-in_ok-new-in-Some-after_right
group-returns-in_ok-new-in-Some-after_right t c =
    let tree = condition_tree c.in-Some.condition in
    ap (λ x. Some (x, c.in-Some-after_right.left.now)) (tree-group c.in_ok-new-in-Some-after_right.field-0
    ∙ ap (λ x. Grouped (condition_tree x)) c.in_ok-new-in-Some-after_right.ensures.ok)
    ∙ ap (close_group tree) (ap tokens_left (sym c.in-Some-after_right.is) ∙ c.after_right.ensures)
    ∙ ap (λ x. group (shown_read condition_tree x)) (sym c.in-Some.is)
    ∙ group-below c.args.levels c.args.tokens.now (shown_read condition_tree c.in_ok-condition.field-0) c.if-levels-eq0.false
    c.in_ok-condition.ensures

pub group-returns-in-None : goal.group-returns-in-None
group-returns-in-None t c =
    let tree = condition_tree c.in-Some.condition in
    ap (close_group tree) (ap tokens_left (sym c.in-None.is) ∙ c.after_right.ensures)
    ∙ ap (λ x. group (shown_read condition_tree x)) (sym c.in-Some.is)
    ∙ group-below c.args.levels c.args.tokens.now (shown_read condition_tree c.in_ok-condition.field-0) c.if-levels-eq0.false
    c.in_ok-condition.ensures

pub negation-returns-then-levels-eq0 : goal.negation-returns-then-levels-eq0
negation-returns-then-levels-eq0 t c = negation-zero c.args.levels c.args.tokens.now c.if-levels-eq0.true

pub negation-returns-in_ok-new-in-Some : goal.negation-returns-in_ok-new-in-Some
negation-returns-in_ok-new-in-Some t c =
    ap (λ x. Some (x, c.in-Some.rest.now)) (tree-not c.in_ok-new-in-Some.field-0
    ∙ ap (λ x. Negated (term_tree x)) c.in_ok-new-in-Some.ensures.ok)
    ∙ ap (λ x. negate (shown_read term_tree x)) (sym c.in-Some.is)
    ∙ negation-below c.args.levels c.args.tokens.now (shown_read term_tree c.in_ok-term.field-0) c.if-levels-eq0.false c.in_ok-term.ensures

pub negation-returns-in-None : goal.negation-returns-in-None
negation-returns-in-None t c =
    ap (λ x. negate (shown_read term_tree x)) (sym c.in-None.is)
    ∙ negation-below c.args.levels c.args.tokens.now (shown_read term_tree c.in_ok-term.field-0) c.if-levels-eq0.false c.in_ok-term.ensures

pub later_nots-returns-in_default-2 : goal.later_nots-returns-in_default-2
later_nots-returns-in_default-2 t c =
    let levels = c.args.levels in
    refused after_and (read_not levels) and-takes (not-shrinks levels) term_tree _ c.loop-behind.more.items c.loop-behind.rest.now
    c.in-Some.behind c.in-Some.is c.after_and.ensures c.in_default-2.is c.in_ok-next.ensures c.loop-behind.invariant

pub later_nots-loop-behind-smaller : goal.later_nots-loop-behind-smaller
later_nots-loop-behind-smaller t c =
    let levels = c.args.levels in
    fewer after_and (read_not levels) and-takes (not-shrinks levels) term_tree c.loop-behind.rest.now c.in-Some.behind c.in-Some-2.left
    c.in-Some-2.next c.in-Some.is c.after_and.ensures c.in-Some-2.is c.in_ok-next.ensures

pub later_nots-loop-behind-preserved : goal.later_nots-loop-behind-preserved
later_nots-loop-behind-preserved t c =
    let levels = c.args.levels in
    one_more after_and (read_not levels) and-takes (not-shrinks levels) term_tree _ c.loop-behind.more.items c.push.new.self.items
    c.loop-behind.rest.now c.in-Some.behind c.in-Some-2.left c.in-Some-2.next
    c.in_ok-push.ensures.items c.in-Some.is c.after_and.ensures c.in-Some-2.is c.in_ok-next.ensures c.loop-behind.invariant

pub later_nots-returns : goal.later_nots-returns
later_nots-returns t c =
    let levels = c.args.levels in
    ended after_and (read_not levels) and-takes (not-shrinks levels) term_tree _ c.loop-behind.more.items c.loop-behind.rest.now
    c.in_default.is c.after_and.ensures c.loop-behind.invariant

pub later_ands-returns-in_default-2 : goal.later_ands-returns-in_default-2
later_ands-returns-in_default-2 t c =
    let levels = c.args.levels in
    refused after_or (read_and levels) or-takes (and-shrinks levels) conjunction_tree _ c.loop-behind.more.items c.loop-behind.rest.now
    c.in-Some.behind c.in-Some.is c.after_or.ensures c.in_default-2.is c.in_ok-next.ensures c.loop-behind.invariant

pub later_ands-loop-behind-smaller : goal.later_ands-loop-behind-smaller
later_ands-loop-behind-smaller t c =
    let levels = c.args.levels in
    fewer after_or (read_and levels) or-takes (and-shrinks levels) conjunction_tree c.loop-behind.rest.now c.in-Some.behind c.in-Some-2.left
    c.in-Some-2.next c.in-Some.is c.after_or.ensures c.in-Some-2.is c.in_ok-next.ensures

pub later_ands-loop-behind-preserved : goal.later_ands-loop-behind-preserved
later_ands-loop-behind-preserved t c =
    let levels = c.args.levels in
    one_more after_or (read_and levels) or-takes (and-shrinks levels) conjunction_tree _ c.loop-behind.more.items c.push.new.self.items
    c.loop-behind.rest.now c.in-Some.behind c.in-Some-2.left c.in-Some-2.next
    c.in_ok-push.ensures.items c.in-Some.is c.after_or.ensures c.in-Some-2.is c.in_ok-next.ensures c.loop-behind.invariant

pub later_ands-returns : goal.later_ands-returns
later_ands-returns t c =
    let levels = c.args.levels in
    ended after_or (read_and levels) or-takes (and-shrinks levels) conjunction_tree _ c.loop-behind.more.items c.loop-behind.rest.now
    c.in_default.is c.after_or.ensures c.loop-behind.invariant
