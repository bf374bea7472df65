use Rattle.std.proofs.Common.{◌≡◌, ◌-◌, take}
use Rattle.rules.specs.Bytes.{nodes_of, before}
use Rattle.rules.proofs.read.Nodes.fill.Given as goal

abbrev pub invariant-loop-i : goal.invariant-loop-i
invariant-loop-i l = record {
  left : nodes_of l.fn.self.all l.fn.self.count l.fn.self.count l.fn.self.rest.now ≡ before (take l.i l.list) (nodes_of l.self.all l.self.count (l.self.count - l.i) l.self.rest.now);
  all : l.self.all ≡ l.fn.self.all;
  count : l.self.count ≡ l.fn.self.count;
}
