use Rattle.appup_plain.proofs.copies.copy_update.Goals as goal

pub returns : goal.returns
returns c =
    let update = c.args.update.now in λ j. record {
      name = c.in_ok-clone.ensures.cases j;
      mod_type = update.mod_type;
      timeout = update.timeout;
      change = c.in_ok-copy_change.ensures j;
      pre = update.pre;
      post = update.post;
      dep_mods = c.in_ok-copy_names.ensures j;
    }
