mod ThreeNodes
