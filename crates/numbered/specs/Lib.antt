-- Jobs in number order, as points, and their starts back in row order.
pub mod InOrder
